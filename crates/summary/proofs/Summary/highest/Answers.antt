-- The highest word that is not 0, and that word's highest bit.
use native.Mathlib.Omega.{arith}
use Rattle.summary.proofs.Found.{Led, led, finds_nothing, finds_level}
use Rattle.summary.proofs.Summary.highest.Goals as goal

pub returns-then-top-eq0 : goal.returns-then-top-eq0
returns-then-top-eq0 c = finds_nothing c.args.self c.if-top-eq0.true

pub bounds-words-i : goal.bounds-words-i
bounds-words-i c =
    let led_here : Led c.args.self c.requires.levels =
    led c.args.self c.requires.levels c.requires.shown c.if-top-eq0.false in omega (arith, led_here.inside)

pub overflow_sub-bit : goal.overflow_sub-bit
overflow_sub-bit c =
    let led_here : Led c.args.self c.requires.levels =
    led c.args.self c.requires.levels c.requires.shown c.if-top-eq0.false in omega (arith, led_here.fits_word)

pub returns : goal.returns
returns c =
    finds_level c.args.self c.if-top-eq0.false
