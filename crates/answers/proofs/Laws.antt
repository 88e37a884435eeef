-- Answers taken one after the other.
use Rattle.std.proofs.Common.{ap}
use Rattle.std.specs.Result.{IsErr, IsErrAnd, result_and}
use Rattle.std.specs.Prelude.{◌≡◌, refl, Bool, true, false, Result, Ok, Err, is_ok}
use Rattle.answers.specs.declared.Refusal.{Refusal}
use Rattle.answers.specs.Answers.{Answer, done, first_of, unless_of}

-- Only `done` is done.
pub done_is : (a : Answer) → is_ok a ≡ true → a ≡ done
done_is (Ok _) h = refl
done_is (Err r) h = cc

-- The first of two is done where both are.
pub first_done : (a b : Answer) → first_of a b ≡ done → (a ≡ done) × (b ≡ done)
first_done (Ok _) b e = (refl, e)
first_done (Err r) b e = cc

-- A test whose answer is done held.
pub unless_done : (ok : Bool) (refusal : Refusal) → unless_of ok refusal ≡ done → ok ≡ true
unless_done true refusal h = refl
unless_done false refusal h = cc

-- A test whose refusal came did not hold.
pub unless_refused : (ok : Bool) (refusal : Refusal) {r : Refusal} → unless_of ok refusal ≡ Err r → (ok ≡ false) × (refusal ≡ r)
unless_refused true refusal h = cc
unless_refused false refusal h = (refl, (cc))

-- What `?` hands on is the refusal that it found.
pub handed_on : {T : Type 0} (result : Result T Refusal) {r : Refusal} → IsErr result × IsErrAnd result (λ x. x ≡ r) → result ≡ Err r
handed_on (Ok x) h = absurd h.1
handed_on (Err x) h = ap Err h.1

-- The same refusal in place of another value.
pub same_refusal : {T : Type 0} {a b : Refusal} → ◌≡◌ {A = Result T Refusal} (Err a) (Err b) → a ≡ b
same_refusal h = cc

-- A value behind what is judged before it.
pub and_refused : {T : Type 0} (judged : Answer) (x : T) {r : Refusal} → result_and judged (Ok x) ≡ Err r → judged ≡ Err r
and_refused (Ok _) x h = cc
and_refused (Err r) x h = cc

pub and_done : {T : Type 0} (judged : Answer) (x : T) {y : T} → result_and judged (Ok x) ≡ Ok y → (judged ≡ done) × (x ≡ y)
and_done (Ok _) x h = (refl, (cc))
and_done (Err r) x h = (cc, (cc))

-- The first of two that refuses.
pub first_stops : (a b : Answer) → is_ok a ≡ false → first_of a b ≡ a
first_stops (Ok _) b h = cc
first_stops (Err r) b h = refl

-- An answer with nothing after it.
pub first_of_done : (a : Answer) → first_of a done ≡ a
first_of_done (Ok _) = refl
first_of_done (Err r) = refl

-- Three answers, whichever two are taken first.
pub first_assoc : (a b c : Answer) → first_of (first_of a b) c ≡ first_of a (first_of b c)
first_assoc (Ok _) b c = refl
first_assoc (Err r) b c = refl
