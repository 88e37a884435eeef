use Rattle.std.proofs.Common.{rules}
use Rattle.signals.proofs.Masks.{step_told, voices_told}
use Rattle.signals.proofs.Voices.add_to.Goals as goal

pub returns : goal.returns
returns c =
    let a = c.args in
    voices_told a.topology a.self a.blends a.source_resting a.sums
    {f1 = c.with_if.result} {f2 = c.with_if-2.result} {f3 = c.with_if-3.result} {b1 = c.with_if-4.result} {b2 = c.with_if-5.result}
    (step_told _ c.is_masked.ensures (λ t. search rules) (λ t. search rules))
    (step_told _ c.is_masked-2.ensures (λ t. search rules) (λ t. search rules))
    (step_told _ c.is_masked-3.ensures (λ t. search rules) (λ t. search rules))
    (step_told _ c.is_masked-4.ensures (λ t. search rules) (λ t. search rules))
    (step_told _ c.is_masked-5.ensures (λ t. search rules) (λ t. search rules))
    (step_told _ c.is_masked-6.ensures (λ t. search rules) (λ t. search rules))
