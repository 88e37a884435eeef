-- What a script's step gives: the number of its answer, how many bytes the samples and the line have, and the buffers that were lent to be written.
use Rattle.std.specs.Prelude.{ℕ, ◌*◌, List}
use Rattle.answers.specs.Answers.{number_of}
use Rattle.filter.specs.Lent.{Lent}
use Rattle.run.specs.Run.{Run, run_of}
use Rattle.bounce_step.specs.declared.Stepped.{Stepped}
use Rattle.text.specs.Text.{grown, grown_end}
use Rattle.bounce_lines.specs.Lines.{script_line_of}

pub record Step : Type 0 where
  pub stepped : Stepped
  pub state : List ℕ
  pub output : List ℕ
  pub line : List ℕ

abbrev pub ran_line_of : List ℕ → Run → List ℕ
ran_line_of name r = script_line_of name r.answer r.events r.samples

abbrev pub after_run_of : List ℕ → List ℕ → Run → Step
after_run_of name line r =
    record {
      stepped = record { number = number_of r.answer; samples = 16 * r.samples; line = grown_end line 0 (ran_line_of name r) };
      state = r.state;
      output = r.output;
      line = grown line 0 (ran_line_of name r);
    }

-- The script of a name is run from the state that the last one left, and its line is written into a buffer.
abbrev pub step_of : Lent → List ℕ → List ℕ → List ℕ → List ℕ → List ℕ → Step
step_of lent state name script output line = after_run_of name line (run_of lent state script output)
