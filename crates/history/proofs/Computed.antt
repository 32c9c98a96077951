-- One name to open the machine and the history by, where a run of given calls is computed.
use Rattle.machine.specs.Lists.{put, without, only, below}
use Rattle.machine.specs.Scheduling.{enqueue, enqueue_first, unqueue, stand_down, stand_back, wake, block}
use Rattle.machine.specs.Scheduling.{highest_below, highest, dispatch_head, dispatch_at, dispatch, displace}
use Rattle.machine.specs.Scheduling.{choose_for, choose}
use Rattle.machine.specs.Endpoints.{join_endpoint, leave_endpoint, wake_from, drop_debt, note_all, note, end_abort}
use Rattle.machine.specs.Grants.{lacks, regranted, grants_after}
use Rattle.machine.specs.Aborts.{one_more, remove_up_to, deleted, delete_from, delete_at, delete, hits, look_at, look}
use Rattle.machine.specs.Aborts.{after_look, look_up_to, join, begin, ended, looked_own, work_own, begin_after}
use Rattle.machine.specs.Aborts.{finished, looked_other, work_other, under_badge, abort_from, abort_open}
use Rattle.machine.specs.Aborts.{abort_at, abort_unless, abort}
use Rattle.machine.specs.Machine.{create_if, create_thread, leave_ready, leave, destroy_if, destroy_thread, move_ready}
use Rattle.machine.specs.Machine.{change_unless, priority_if, set_priority, create_at, create_endpoint, fire}
use Rattle.machine.specs.Machine.{interrupt, leave_ticks, tick_for, tick, send_to, send_unless, send_at, send}
use Rattle.machine.specs.Machine.{receive_from, receive_at, receive, yield, wait_at, wait, grant_at}
use Rattle.machine.specs.Machine.{grant_if, grant, perform, perform_unless, perform_if, step}
use Rattle.history.specs.Queues.{queues_by, queues_if}
use Rattle.history.specs.Blocks.{blocks_by, blocks_if}
use Rattle.history.specs.History.{named}
use Rattle.history.specs.Walk.{left_of, begins, ends, passes, settles, settle, takes, take_look, walk, takes_up}
use Rattle.history.specs.Walk.{joins_in, lets_go, hears, closes, close}
use Rattle.history.specs.Outcomes.{deletes, walks, aborts_by, aborts_of, outcome_of, outcome_if}
use Rattle.history.specs.Recorded.{delivered_if, delivered, abort_calls_of, recorded, told, run_from}

unfoldable pub computed : Unit {0}
unfolding put without only below enqueue enqueue_first unqueue stand_down stand_back wake block highest_below highest
    dispatch_head dispatch_at dispatch displace choose_for choose join_endpoint leave_endpoint wake_from drop_debt
    note_all note end_abort one_more remove_up_to deleted delete_from delete_at delete hits look_at look after_look
    look_up_to
    join begin ended looked_own work_own begin_after finished looked_other work_other under_badge abort_from
    abort_open abort_at abort_unless abort create_if create_thread leave_ready leave destroy_if
    destroy_thread move_ready change_unless priority_if set_priority create_at create_endpoint fire interrupt
    leave_ticks
    tick_for tick send_to send_unless send_at send receive_from receive_at receive yield wait_at wait grant_at grant_if
    grant
    perform perform_unless perform_if step lacks regranted grants_after named left_of begins ends passes settles settle
    takes take_look walk takes_up joins_in lets_go hears closes close deletes walks aborts_by aborts_of outcome_of
    outcome_if
    delivered_if delivered abort_calls_of recorded told run_from queues_by queues_if blocks_by
    blocks_if
computed = tt
