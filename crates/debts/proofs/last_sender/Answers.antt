-- Where there is a sender, all waiters send, and the last of them is the last sender.
use Rattle.debts.proofs.Beginning.{last_sends}
use Rattle.debts.proofs.last_sender.Goals as goal

pub returns : goal.returns
returns c = search last_sends
