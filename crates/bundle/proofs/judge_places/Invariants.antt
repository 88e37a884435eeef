-- What is to be said of all places is what is to be said of those not yet passed.
use mathlib.Core.Path.{◌≡◌}
use lib.ListN.{drop}
use Rattle.bundle.specs.Opening.{judge_places_of}
use Rattle.bundle.proofs.judge_places.Given as goal

abbrev pub invariant-loop-place : goal.invariant-loop-place
invariant-loop-place l = judge_places_of l.buffer l.bytes l.places ≡ judge_places_of l.buffer l.bytes (drop l.place-index l.places)
