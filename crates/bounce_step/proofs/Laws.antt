-- The bytes of the samples that a run wrote lie in its output, whose length it keeps.
use Prim.Native.Nat.{ℕ, ◌*◌, ◌^◌, ◌≤◌, ◌<◌}
use mathlib.Core.Path.{◌≡◌, ap, sym, ◌∙◌}
use mathlib.Core.Bool.{Bool, true, false, cond}
use mathlib.Core.List.{List}
use native.Mathlib.Omega.{arith}
use lib.ListN.{length, drop, length-append, length-drop}
use lib.Seq.{length-take-le}
use Rattle.io.specs.Counts.{IsPrefixLen}
use Rattle.std.specs.Prelude.{is_ok}
use Rattle.control.specs.Block.{fields_of}
use Rattle.script.specs.Script.{events_of}
use Rattle.filter.specs.Lent.{Lent}
use Rattle.run.specs.Run.{Ran, played_of, sample_bytes, judge_run_of, Run, left_of, run_of}
use Rattle.run.specs.declared.Ended.{Ended}
use Rattle.run.specs.Rows.{ended_of}
use Rattle.run.proofs.Bytes.{length_outputs}
use Rattle.run.proofs.Whole.{run_most}

module _ (lent : Lent) (block script output : List ℕ) where
  abbrev ran : Ran
  ran = played_of lent (fields_of block) (events_of script)

  abbrev refused : Run
  refused = record { answer = judge_run_of lent block script (length output); events = 0; samples = 0; state = block; output = output }

  samples_in : length (run_of lent block script output).output ≡ length output → 16 * (run_of lent block script output).samples ≤ length output
  unfolding run_of
  samples_in = go (is_ok (judge_run_of lent block script (length output)))
    where
      go : (d : Bool) → length (cond d (left_of ran output) refused).output ≡ length output → 16 * (cond d (left_of ran output) refused).samples ≤ length output
      go true e =
          let n = 16 * length ran.samples in
          omega (arith, length-append (sample_bytes ran.samples) (drop n output), length_outputs ran.samples, length-drop n output)
      go false e = omega arith

  -- the same of what the run answers
  module _ {e : Ended} (is : e ≡ ended_of (run_of lent block script output)) where
    pub samples_fit : 16 * e.samples < 2 ^ 64
    samples_fit = rw is (omega (arith, (run_most lent block script output).1))

    pub samples_count : {after : List ℕ} → after ≡ (run_of lent block script output).output → length after ≡ length output → IsPrefixLen (16 * e.samples) after
    samples_count {after} w l =
        let h : 16 * e.samples ≤ length after = rw is (omega (arith, samples_in (ap length (sym w) ∙ l))) in
        (h, sym (length-take-le (16 * e.samples) after h))
