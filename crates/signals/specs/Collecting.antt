-- The call on lent bytes: 10, 11, 6, and the eight sums in 32 bytes.
use Rattle.std.specs.Prelude.{ℕ, Bool, ◌&&◌, cond, List, ◌++◌, leb, eqb, length, is_ok}
use Rattle.std.specs.Float.Ieee.Scale.{finite}
use Rattle.answers.specs.declared.Refusal.TheVariants.{Argument, Sources, Domain}
use Rattle.answers.specs.Answers.{Answer, first_of, unless_of}
use Rattle.wire.specs.Wire.{float_bytes}
use Rattle.mixing.specs.Topology.{topology_of}
use Rattle.voice.specs.Levels.{source_resting_of}
use Rattle.signals.specs.declared.RoutedSignals.{RoutedSignals}
use Rattle.signals.specs.Signals.{collect_of}
use Rattle.signals.specs.Lent.{voices_of, valid_voices_of, external_of, blends_of, finite_numbers_of}

-- The sums of a routing and a mode nibble, for the voices and the numbers that are lent.
unfoldable pub signals_of : ℕ → ℕ → List ℕ → List ℕ → RoutedSignals
signals_of routing mode voices numbers = collect_of (topology_of routing mode) (voices_of voices) (blends_of numbers) (external_of numbers) source_resting_of

-- Each of the eight is finite.
unfoldable pub finite_signals_of : RoutedSignals → Bool
finite_signals_of s =
    (finite s.filter_input_sum && finite s.filter_source_energy && finite s.filter_input_activity && finite s.bypass_input_sum)
    && (finite s.bypass_envelope_activity && finite s.pure_bypass_envelope_activity && finite s.pure_bypass_attack_drive && finite s.pure_pulse_envelope_activity)

-- Their 32 bytes, in the order of the fields.
unfoldable pub signal_bytes : RoutedSignals → List ℕ
signal_bytes s =
    float_bytes s.filter_input_sum
    ++ float_bytes s.filter_source_energy
    ++ float_bytes s.filter_input_activity
    ++ float_bytes s.bypass_input_sum
    ++ float_bytes s.bypass_envelope_activity
    ++ float_bytes s.pure_bypass_envelope_activity
    ++ float_bytes s.pure_bypass_attack_drive
    ++ float_bytes s.pure_pulse_envelope_activity

-- 10, then 11: every voice and every number, also one that this routing does not read.
unfoldable pub judge_collect_of : ℕ → ℕ → List ℕ → List ℕ → ℕ → Answer
judge_collect_of routing mode voices numbers room =
    first_of (unless_of (leb routing 15 && leb mode 15 && eqb room 32) Argument) (unless_of (valid_voices_of voices && finite_numbers_of numbers) Sources)

-- then 6
unfoldable pub collect_answer_of : ℕ → ℕ → List ℕ → List ℕ → ℕ → Answer
collect_answer_of routing mode voices numbers room =
    first_of (judge_collect_of routing mode voices numbers room) (unless_of (finite_signals_of (signals_of routing mode voices numbers)) Domain)

-- The lent sums after the call: as they were where it is refused.
unfoldable pub collected_of : ℕ → ℕ → List ℕ → List ℕ → List ℕ → List ℕ
collected_of routing mode voices numbers sums =
    cond (is_ok (collect_answer_of routing mode voices numbers (length sums))) (signal_bytes (signals_of routing mode voices numbers)) sums
