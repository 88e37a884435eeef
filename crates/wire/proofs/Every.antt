-- `every` where the test holds at each number, where it fails at one, and where an iterator's `all` was told so of a list.
use Rattle.std.proofs.Common.{◌≡◌, ℕ, zero, suc, ◌<◌, Bool, true, false, List, length, get_or, refl, sym, ◌∙◌, ap, arith}
use Rattle.std.specs.Bool.{MatchBool}
use Rattle.std.specs.List.{range_with_len, AllWithin, HoldsAt}
use Rattle.std.specs.Prelude.{Option}
use Rattle.std.specs.declared.ops.Range.{Range}
use Rattle.std.specs.Option.{MatchOption}
use Rattle.std.specs.Iterator.{YieldsThen}
use Rattle.std.specs.List.{FoldsTo}
use Rattle.std.specs.Fn.{Called}
use Rattle.std.proofs.iter.Yields.{nat_range_steps}
use Rattle.std.proofs.lemmas.Iterator.{YieldsList-from_range, cases_from_all}
use denote.Param.Members.{Mut}
use Rattle.std.proofs.lemmas.List.FromFn.{length-range_with_len, get_or-range_with_len}
use native.Mathlib.Nat.{zero-add}
use Rattle.wire.specs.First.{every}
use Rattle.wire.proofs.First.{every_true}

pub every_holds : (ok : ℕ → Bool) (n : ℕ) → ((k : ℕ) → k < n → ok k ≡ true) → every ok n ≡ true
unfolding every
every_holds ok zero h = refl
every_holds ok (suc n) h = rw (every_holds ok n (λ k l. h k (omega arith)), h n (omega arith)) refl

pub every_fails : (ok : ℕ → Bool) (n k : ℕ) → k < n → ok k ≡ false → every ok n ≡ false
every_fails ok n k l e = go (every ok n) refl
  where
    go : (b : Bool) → every ok n ≡ b → every ok n ≡ false
    go true q = let held = every_true ok n q k l in cc
    go false q = q

pub all_told : {X : Type 0} (test : X → Bool) (ok : ℕ → Bool) (xs : List X) (n : ℕ) (d : X) (r : Bool) → length xs ≡ n
    → ((k : ℕ) → k < n → test (get_or xs k d) ≡ ok k)
    → MatchBool r (AllWithin (λ x. test x ≡ true) xs 0 (length xs)) ((k : ℕ) × (k < length xs) × HoldsAt (λ x. test x ≡ false) xs k)
    → r ≡ every ok n
all_told test ok xs n d true l same h = sym (every_holds ok n (λ k b. sym (same k b) ∙ h k d (omega arith) (omega arith)))
all_told test ok xs n d false l same h = sym (every_fails ok n h.0 (omega (arith, h.1)) (sym (same h.0 (omega (arith, h.1))) ∙ h.2 d))

-- an iterator's `all` over the numbers below n
pub all_below : {F : Type 0} {g : Mut F (ℕ × Unit {0}) Bool} {f : F} (u : Range ℕ) (ok : ℕ → Bool) (n : ℕ) {r : Bool}
    → (xs : List ℕ) × (o : Option ℕ) × (j : F) × YieldsThen nat_range_steps (record { start = 0; end = n }) xs o u
    × FoldsTo (λ p x q. Called g p (x, tt) true q) f xs j × MatchOption o (r ≡ true) (λ x. (r ≡ false) × ((h : F) × Called g j (x, tt) false h))
    → ((x : ℕ) (q : F) → Called g f (x, tt) true q → (q ≡ f) × (ok x ≡ true))
    → ((x : ℕ) (q : F) → Called g f (x, tt) false q → ok x ≡ false)
    → r ≡ every ok n
all_below u ok n ran holds fails =
    let xs = range_with_len 0 n in
    all_told ok ok xs n 0 _ (length-range_with_len 0 n) (λ k l. ap ok (get_or-range_with_len 0 n k 0 l ∙ zero-add k))
    (cases_from_all u _ _ (λ x. ok x ≡ true) (λ x. ok x ≡ false) ran (YieldsList-from_range 0 n n refl (omega arith)) holds fails)
