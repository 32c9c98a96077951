-- There is room for every request.
use Rattle.std.proofs.Common.{arith}
use Rattle.requests.proofs.Fits.{request_short}
use Rattle.requests.proofs.request_at.Goals as goal

pub request-requires : goal.request-requires
request-requires c =
    let short = request_short c.args.call _ c.well_formed.1.1.0 in
    (omega arith, rw c.new-line.ensures (omega (arith, short)))
