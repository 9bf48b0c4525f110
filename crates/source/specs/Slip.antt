-- A slip: received bytes, a pair and then its label. The first entry of a pair counts; entries for pairs above 47 and
-- an odd last byte are skipped.
use Rattle.std.specs.Prelude.{◌≡◌, ℕ, ◌%◌, ◌<◌, ◌≤◌, Bool, true, false, cond, ◌&&◌, List, [], ◌∷◌, Some, None, Option, ◌==◌, nat_lt, slice_index, refl}
use Rattle.std.proofs.Common.{◌∙◌, arith, lit<}
use Rattle.std.proofs.lemmas.Nat.{mod_below}
use Rattle.std.proofs.lemmas.Bool.{cond-false, and_right, le-ltb}
use Rattle.source.specs.Meanings.{Meaning, labelled}

-- the label of the first entry for a pair; an entry is a pair and a label, and a last odd byte is none
unfoldable pub slip_label : List ℕ → ℕ → Option ℕ
slip_label [] i = None
slip_label (p ∷ []) i = None
slip_label (p ∷ l ∷ rest) i = cond (p == i && nat_lt i 48) (labelled l) (slip_label rest i)

-- bytes whose slip has this meaning
pub record HeldBySlip (m : Meaning) : Type 0 where
  pub bytes : List ℕ
  pub are_bytes : (k : ℕ) → slice_index bytes k < 256
  pub means : (i : ℕ) → slip_label bytes i ≡ m.label i

-- a slip can hold every meaning
abbrev pub HoldsEveryMeaning : Type 0
HoldsEveryMeaning = (m : Meaning) → HeldBySlip m

-- ---- the laws that it owes

-- it is one byte
pub slip_byte : (bs : List ℕ) (i x : ℕ) → slip_label bs i ≡ Some x → x < 256
unfolding slip_label
slip_byte [] i x e = absurd (let z : ◌≡◌ {A = ℕ} 0 1 = cc in omega arith)
slip_byte (p ∷ []) i x e = absurd (let z : ◌≡◌ {A = ℕ} 0 1 = cc in omega arith)
slip_byte (p ∷ l ∷ rest) i x e = by (p == i && nat_lt i 48) e (slip_byte rest i x)
  where
    by : (b : Bool) → cond b (labelled l) (slip_label rest i) ≡ Some x → (slip_label rest i ≡ Some x → x < 256) → x < 256
    by true e later = let below = mod_below l 256 (lit< tt) in let s : l % 256 ≡ x = cc in omega arith
    by false e later = later e

-- nothing is told above pair 47
pub slip_silent : (bs : List ℕ) (i : ℕ) → 48 ≤ i → slip_label bs i ≡ None
unfolding slip_label
slip_silent [] i h = refl
slip_silent (p ∷ []) i h = refl
slip_silent (p ∷ l ∷ rest) i h = cond-false _ _ _ (and_right (p == i) _ (le-ltb _ _ h)) ∙ slip_silent rest i h

-- what a slip means
abbrev pub slip : List ℕ → Meaning
slip bytes = record { label = slip_label bytes; one_byte = slip_byte bytes; silent_above = slip_silent bytes }
