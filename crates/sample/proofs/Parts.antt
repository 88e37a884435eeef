-- The sample on parts is the sample on the controls that they are parts of. Assumes nothing.
use Prim.Native.Nat.{ℕ}
use mathlib.Core.Path.{◌≡◌, refl, ◌∙◌}
use mathlib.Core.Bool.{Bool, true, false, cond, ◌&&◌}
use mathlib.Core.List.{List, []}
use lib.Ieee.{Float}
use lib.Ieee.Scale.{finite}
use Rattle.answers.specs.Answers.{first_of, Answer}
use Rattle.floats.specs.Arithmetic.{◌⊖◌}
use Rattle.integrator.specs.declared.IntegratorState.{IntegratorState}
use Rattle.mixing.specs.declared.MixingTopology.{MixingTopology}
use Rattle.bundle.specs.Reading.{read_of}
use Rattle.controls.specs.declared.ControlCache.{ControlCache}
use Rattle.refresh.specs.declared.CoreControls.{CoreControls}
use Rattle.refresh.specs.Refresh.{core_controls_of}
use Rattle.sample.specs.Sample.{summer_transfer_of, judge_summer_of, is_idle_of, moved_of, at_rest_of, advance_filter_core_of, mixed_of, select_filter_output_of, judge_sample_of, taken_of, filter_sample_of}
use Rattle.sample.specs.Parts.{cache_of, rest_of, above_of, core_input_of, stepped_of, sample_from_parts_of}
use Rattle.std.specs.Prelude.{is_ok, Option, Some, None, Result, Float, Ok, Err}
use Rattle.std.specs.Result.{result_and}
use Rattle.integrator.specs.declared.Advanced.{Advanced}
use Rattle.answers.specs.declared.Refusal.{Refusal}

-- The selection reads no table.
pub taken_parts : (gains input_drives feedback_drives : List Float) (core : CoreControls) (gain : Float) (count mode : ℕ) (moved : Option Advanced)
    → taken_of (cache_of [] [] [] core gain) count mode moved ≡ taken_of (cache_of gains input_drives feedback_drives core gain) count mode moved
unfolding taken_of select_filter_output_of mixed_of
taken_parts gains input_drives feedback_drives core gain count mode None = refl
taken_parts gains input_drives feedback_drives core gain count mode (Some a) = refl

-- The curve above the rest, both as they are read.
above_read : (j k : Answer) (u v : Float) → above_of (read_of j u) (read_of k v) ≡ result_and (first_of j k) (Ok (u ⊖ v))
unfolding above_of read_of
above_read (Ok _) (Ok _) u v = refl
above_read (Ok _) (Err r) u v = refl
above_read (Err r) k u v = refl

module _ (bundle curves : List ℕ) (slot : ℕ) (t : MixingTopology) (c : ControlCache) (mode : ℕ) (s : IntegratorState) (sum energy : Float) where
  -- the parts of the controls
  abbrev parts : ControlCache
  parts = cache_of c.filter.integrator_gain c.filter.input_drive c.filter.feedback_drive (core_controls_of c.filter) c.mode_output_gain

  same_taken : (moved : Option Advanced) → taken_of parts t.filter_output_count mode moved ≡ taken_of c t.filter_output_count mode moved
  unfolding taken_of select_filter_output_of mixed_of
  same_taken None = refl
  same_taken (Some a) = refl

  same_stepped : (fed : Result (Option Float) Refusal) → stepped_of t parts mode s energy fed ≡ stepped_of t c mode s energy fed
  unfolding stepped_of moved_of
  same_stepped (Ok None) = same_taken (at_rest_of s)
  same_stepped (Ok (Some x)) = same_taken _
  same_stepped (Err a) = refl

  plain : stepped_of t c mode s energy (core_input_of curves slot t (rest_of bundle t) s sum energy) ≡ filter_sample_of bundle curves slot t c mode s sum energy
  unfolding stepped_of core_input_of filter_sample_of judge_sample_of advance_filter_core_of judge_summer_of summer_transfer_of
  plain = go (finite sum && finite energy) (is_idle_of t.filter_input_count s) (judge_summer_of bundle curves slot t sum) refl refl refl
    where
      go : (f i : Bool) (j : Answer) → (finite sum && finite energy) ≡ f → is_idle_of t.filter_input_count s ≡ i → judge_summer_of bundle curves slot t sum ≡ j
          → stepped_of t c mode s energy (core_input_of curves slot t (rest_of bundle t) s sum energy) ≡ filter_sample_of bundle curves slot t c mode s sum energy
      go false i j e h k = simp e
      go true true j e h k = simp (e, h)
      go true false (Ok _) e h k = simp (e, h, above_read, k)
      go true false (Err r) e h k = simp (e, h, above_read, k)

  pub parts_are_sample : sample_from_parts_of curves slot t parts (rest_of bundle t) mode s sum energy ≡ filter_sample_of bundle curves slot t c mode s sum energy
  parts_are_sample = same_stepped (core_input_of curves slot t (rest_of bundle t) s sum energy) ∙ plain
