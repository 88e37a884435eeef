use mathlib.Core.Path.{sym, ◌∙◌}
use Rattle.answers.proofs.Laws.{handed_on, unless_done, unless_refused}
use Rattle.bundle.proofs.Reading.{read_value, read_refused}
use Rattle.filter.specs.Core.{reselected_of}
use Rattle.filter.proofs.Core.reselect.Goals as goal

pub returns-in_err-gain : goal.returns-in_err-gain
unfolding reselected_of
returns-in_err-gain c =
    let judged = read_refused _ _ (sym c.in_err-gain.was ∙ simp c.effective_cutoff.ensures at c.read_mode_output_gain.ensures) in
    record { value = handed_on _ c.from_residual.ensures ∙ simp judged; core_after = simp judged }

pub returns-in_err-unless : goal.returns-in_err-unless
unfolding reselected_of
returns-in_err-unless c =
    let read = read_value _ _ (sym c.in_ok-gain.was ∙ simp c.effective_cutoff.ensures at c.read_mode_output_gain.ensures) in
    let off = unless_refused _ _ (sym c.unless.ensures ∙ c.in_err-unless.was) in
    record {
      value = handed_on _ c.from_residual-in_err-unless.ensures ∙ simp (read.0, ← c.finite_charges.ensures, off.0, off.1);
      core_after = simp (read.0, ← c.finite_charges.ensures, off.0);
    }

pub returns : goal.returns
unfolding reselected_of
returns c =
    let read = read_value _ _ (sym c.in_ok-gain.was ∙ simp c.effective_cutoff.ensures at c.read_mode_output_gain.ensures) in
    let on = unless_done _ _ (sym c.unless.ensures ∙ c.in_ok-unless.was) in
    record {
      value = simp (read.0, ← c.finite_charges.ensures, on);
      core_after = simp (read.0, read.1, ← c.finite_charges.ensures, on, c.refresh_register_output_state-self.ensures);
    }
