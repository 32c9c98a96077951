-- Each arm is the machine's call.
use Rattle.dispatch.proofs.Cases.{thread_done, send_arm, receive_arm, yield_arm, wait_arm, delete_arm, abort_arm}
use Rattle.dispatch.proofs.own_call.Goals as goal

pub returns-in-Send : goal.returns-in-Send
returns-in-Send c =
    thread_done c.in-Send.is (send_arm _ _ _ _) c.send.ensures

pub returns-in-Receive : goal.returns-in-Receive
returns-in-Receive c =
    thread_done c.in-Receive.is (receive_arm _ _) c.receive.ensures

pub returns-in-Yield : goal.returns-in-Yield
returns-in-Yield c =
    thread_done c.in-Yield.is (yield_arm _) c.yield_running.ensures

pub returns-in-Wait : goal.returns-in-Wait
returns-in-Wait c =
    thread_done c.in-Wait.is (wait_arm _ _) c.wait.ensures

pub returns-in-Delete : goal.returns-in-Delete
returns-in-Delete c =
    thread_done c.in-Delete.is (delete_arm _ _ _) c.delete.ensures

pub returns-in-Abort : goal.returns-in-Abort
returns-in-Abort c =
    thread_done c.in-Abort.is (abort_arm _ _ _ _) c.abort.ensures
