-- What is lent to the machine to be read, the same in every event.
use Rattle.std.specs.Prelude.{ℕ, List, []}
use Rattle.answers.specs.Answers.{first_of, Answer}
use Rattle.bundle.specs.Opening.{check_of}
use Rattle.curves.specs.Building.{judge_length_of}

pub record Lent : Type 0 where
  pub bundle : List ℕ
  pub curves : List ℕ
  pub decays : List ℕ

abbrev pub lent_all : List ℕ → List ℕ → List ℕ → Lent
lent_all bundle curves decays = record { bundle = bundle; curves = curves; decays = decays }

-- of a call that takes bundle and curves alone
abbrev pub lent_of : List ℕ → List ℕ → Lent
lent_of bundle curves = lent_all bundle curves []

-- 1, 2, 4 of bundle and curves
unfoldable pub judge_tables_of : List ℕ → List ℕ → Answer
judge_tables_of bundle curves = first_of (check_of bundle) (judge_length_of curves)

abbrev pub judge_lent_of : Lent → Answer
judge_lent_of l = judge_tables_of l.bundle l.curves
