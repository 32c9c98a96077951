-- Each arm is the machine's call, and leaves the grants that it should.
use mathlib.Core.Path.{refl}
use borrow.Author.Rules.{rules}
use Rattle.machine.specs.Grants.{regranted}
use Rattle.dispatch.proofs.Granting.{left_grants, own_regrants}
use Rattle.dispatch.proofs.Cases.{host_done, create_arm, destroy_arm, priority_arm, endpoint_arm}
use Rattle.dispatch.proofs.Cases.{interrupt_arm, tick_arm, grant_arm}
use Rattle.dispatch.proofs.Cases.{own_done}
use Rattle.std.proofs.Common.{rules, ◌≤◌}
use Rattle.calls.specs.Calls.{number_of}
use Rattle.dispatch.proofs.carry_out.Goals as goal

pub returns-in-CreateThread-clause-performs : goal.returns-in-CreateThread-clause-performs
returns-in-CreateThread-clause-performs c =
    host_done c.in-CreateThread.is (create_arm _ _) c.create_thread.ensures.performs

pub returns-in-DestroyThread-clause-performs : goal.returns-in-DestroyThread-clause-performs
returns-in-DestroyThread-clause-performs c =
    host_done c.in-DestroyThread.is (destroy_arm _) c.destroy_thread.ensures

pub returns-in-DestroyThread-clause-regrants : goal.returns-in-DestroyThread-clause-regrants
unfolding regranted
returns-in-DestroyThread-clause-regrants c =
    left_grants _ _ _ c.in-DestroyThread.is (search rules) refl

pub returns-in-SetPriority-clause-performs : goal.returns-in-SetPriority-clause-performs
returns-in-SetPriority-clause-performs c =
    host_done c.in-SetPriority.is (priority_arm _ _) c.set_priority.ensures

pub returns-in-SetPriority-clause-regrants : goal.returns-in-SetPriority-clause-regrants
unfolding regranted
returns-in-SetPriority-clause-regrants c =
    left_grants _ _ _ c.in-SetPriority.is (search rules) refl

pub returns-in-CreateEndpoint-clause-performs : goal.returns-in-CreateEndpoint-clause-performs
returns-in-CreateEndpoint-clause-performs c =
    host_done c.in-CreateEndpoint.is (endpoint_arm _) c.create_endpoint.ensures.performs

pub returns-in-Interrupt-clause-performs : goal.returns-in-Interrupt-clause-performs
returns-in-Interrupt-clause-performs c =
    host_done c.in-Interrupt.is (interrupt_arm _) c.interrupt.ensures

pub returns-in-Interrupt-clause-regrants : goal.returns-in-Interrupt-clause-regrants
unfolding regranted
returns-in-Interrupt-clause-regrants c =
    left_grants _ _ _ c.in-Interrupt.is (search rules) refl

pub returns-in-Tick-clause-performs : goal.returns-in-Tick-clause-performs
returns-in-Tick-clause-performs c =
    host_done c.in-Tick.is tick_arm c.tick.ensures

pub returns-in-Tick-clause-regrants : goal.returns-in-Tick-clause-regrants
unfolding regranted
returns-in-Tick-clause-regrants c =
    left_grants _ _ _ c.in-Tick.is (search rules) refl

pub returns-in-Grant-clause-performs : goal.returns-in-Grant-clause-performs
returns-in-Grant-clause-performs c =
    host_done c.in-Grant.is (grant_arm _ _ _ _) c.grant.ensures.performs

pub returns-in_default-clause-performs : goal.returns-in_default-clause-performs
returns-in_default-clause-performs c =
    let own : (7 ≤ number_of c.args.c) × (number_of c.args.c ≤ 12) = search rules in own_done own c.own_call.ensures

pub returns-in_default-clause-regrants : goal.returns-in_default-clause-regrants
returns-in_default-clause-regrants c =
    let own : (7 ≤ number_of c.args.c) × (number_of c.args.c ≤ 12) = search rules in
    left_grants _ _ c.args.c refl (search rules) (own_regrants c.args.c own.0 own.1 _)
