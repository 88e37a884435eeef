use native.Mathlib.Omega.{arith}
use mathlib.Core.Path.{refl, ap, ◌∙◌}
use mathlib.Core.Bool.{not}
use Rattle.run.proofs.Loop.{sofar_start, at_end, row_goes, row_stops, moves_go, moves_stop, turn_moves, moves_gain, rest_told, rest_here}
use Rattle.run.proofs.play.Goals as goal

pub loop-i-init : goal.loop-i-init
loop-i-init c =
    let z = c.requires in
    record {
      far = sofar_start _ _ _ _ _ (record { valid = z.from.valid; judged = z.from.judged }) z.ahead.readable (let r = z.room.room in omega arith);
      gained = z.from.gained;
      rested = rest_told _ c.resting_of-resting.ensures;
    }

pub play_changes-moved-requires : goal.play_changes-moved-requires
play_changes-moved-requires c =
    let far = c.loop-i.invariant.far in
    record {
      ahead = record { within = far.within; few = c.requires.ahead.few; readable = far.readable };
      from = record { valid = far.good.valid; judged = far.good.judged; gained = c.loop-i.invariant.gained };
    }

pub returns-then-is_err : goal.returns-then-is_err
returns-then-is_err c =
    let told_all =
    moves_stop _ _ _ _ _ _ _ _ _ c.loop-i.invariant.far c.play_changes-moved.ensures
    refl (c.is_err.ensures.negation ∙ ap not c.if-is_err.true)
    in
    record { value = told_all.0; output_after = told_all.1 }

pub resting_at-resting-requires : goal.resting_at-resting-requires
resting_at-resting-requires c = c.loop-i.invariant.rested

pub play_row-row-requires : goal.play_row-row-requires
play_row-row-requires c =
    let far = c.loop-i.invariant.far in
    let done = c.is_err.ensures.negation ∙ ap not c.if-is_err.false in
    let then = moves_go _ _ _ _ _ _ _ _ _ far c.play_changes-moved.ensures refl done in
    record {
      ahead = record { within = then.within; few = c.requires.ahead.few; readable = then.readable };
      room = record { fewer = then.few; room = then.room };
      given = record { gained = moves_gain _ _ _ c.play_changes-moved.ensures; rested = rest_here _ c.play_changes-moved.result.state c.resting_at-resting.ensures };
    }

pub returns-then-is_err-2 : goal.returns-then-is_err-2
returns-then-is_err-2 c =
    let far = c.loop-i.invariant.far in
    let done = c.is_err.ensures.negation ∙ ap not c.if-is_err.false in
    let then = moves_go _ _ _ _ _ _ _ _ _ far c.play_changes-moved.ensures refl done in
    let told = row_stops _ _ _ _ _ _ _ _ _ then c.play_row-row.ensures.value c.play_row-row.ensures.output_after refl (c.is_err-in-loop-i.ensures.negation ∙ ap not c.if-is_err-2.true) in
    record { value = told.0; output_after = told.1 }

pub loop-i-smaller : goal.loop-i-smaller
loop-i-smaller c =
    let far = c.loop-i.invariant.far in
    let done = c.is_err.ensures.negation ∙ ap not c.if-is_err.false in
    let then = moves_go _ _ _ _ _ _ _ _ _ far c.play_changes-moved.ensures refl done in
    let last = c.is_err-in-loop-i.ensures.negation ∙ ap not c.if-is_err-2.false in
    let moves = turn_moves _ _ _ _ _ _ _ _ _ far c.play_changes-moved.ensures c.loop-i-test.true refl done then
    c.play_row-row.ensures.value c.play_row-row.ensures.output_after refl last in
    let within = (row_goes _ _ _ _ _ _ _ _ _ then c.play_row-row.ensures.value c.play_row-row.ensures.output_after refl last).within in
    omega arith

pub loop-i-preserved : goal.loop-i-preserved
loop-i-preserved c =
    let far = c.loop-i.invariant.far in
    let done = c.is_err.ensures.negation ∙ ap not c.if-is_err.false in
    let then = moves_go _ _ _ _ _ _ _ _ _ far c.play_changes-moved.ensures refl done in
    record {
      far = row_goes _ _ _ _ _ _ _ _ _ then c.play_row-row.ensures.value c.play_row-row.ensures.output_after refl (c.is_err-in-loop-i.ensures.negation ∙ ap not c.if-is_err-2.false);
      gained = moves_gain _ _ _ c.play_changes-moved.ensures;
      rested = rest_told _ c.resting_at-resting.ensures;
    }

pub returns : goal.returns
returns c =
    let told_all =
    at_end _ _ _ _ _ _ _ _ _ c.loop-i.invariant.far c.loop-i-test.false
    in
    record { value = told_all.0; output_after = told_all.1 }
