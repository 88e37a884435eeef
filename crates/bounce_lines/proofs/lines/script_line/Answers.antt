use borrow.Author.Rules.{rules}
use mathlib.Core.Path.{ap}
use Rattle.std.specs.Prelude.{is_ok}
use Rattle.bounce_lines.specs.Lines.{script_line_of}
use Rattle.text.proofs.Laws.{grown_then}
use Rattle.bounce_lines.proofs.lines.script_line.Goals as goal

pub returns-in-Err-clause-value : goal.returns-in-Err-clause-value
unfolding script_line_of
returns-in-Err-clause-value c =
    let two = grown_then _ _ _ _ _ _ _ _ (search rules) (c.push-n.ensures.value, c.push-n.ensures.out_after) (c.push-n-in-Err.ensures.value, c.push-n-in-Err.ensures.out_after) in
    let three = grown_then _ _ _ _ _ _ _ _ (search rules) two (c.push_counts-n-in-Err.ensures.value, c.push_counts-n-in-Err.ensures.out_after) in
    let four = grown_then _ _ _ _ _ _ _ _ (search rules) three (c.push-n-in-Err-2.ensures.value, c.push-n-in-Err-2.ensures.out_after) in
    let five = grown_then _ _ _ _ _ _ _ _ (search rules) four (c.push_refusal-n.ensures.value, c.push_refusal-n.ensures.out_after) in
    rw (ap is_ok c.in-Err.is) ((grown_then _ _ _ _ _ _ _ _ (search rules) five (c.push-in-Err.ensures.value, c.push-in-Err.ensures.out_after)).0)

pub returns-in-Err-clause-out_after : goal.returns-in-Err-clause-out_after
unfolding script_line_of
returns-in-Err-clause-out_after c =
    let two = grown_then _ _ _ _ _ _ _ _ (search rules) (c.push-n.ensures.value, c.push-n.ensures.out_after) (c.push-n-in-Err.ensures.value, c.push-n-in-Err.ensures.out_after) in
    let three = grown_then _ _ _ _ _ _ _ _ (search rules) two (c.push_counts-n-in-Err.ensures.value, c.push_counts-n-in-Err.ensures.out_after) in
    let four = grown_then _ _ _ _ _ _ _ _ (search rules) three (c.push-n-in-Err-2.ensures.value, c.push-n-in-Err-2.ensures.out_after) in
    let five = grown_then _ _ _ _ _ _ _ _ (search rules) four (c.push_refusal-n.ensures.value, c.push_refusal-n.ensures.out_after) in
    rw (ap is_ok c.in-Err.is) ((grown_then _ _ _ _ _ _ _ _ (search rules) five (c.push-in-Err.ensures.value, c.push-in-Err.ensures.out_after)).1)
