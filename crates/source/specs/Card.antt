-- A card: a set of pairs with one label. Pairs 48 and up tell nothing.
use Rattle.std.specs.Prelude.{◌≡◌, ℕ, ◌%◌, ◌<◌, ◌≤◌, Bool, true, false, cond, ◌&&◌, Some, None, Option, nat_lt}
use Rattle.std.proofs.Common.{arith, lit<}
use Rattle.std.proofs.lemmas.Nat.{mod_below}
use Rattle.std.proofs.lemmas.Bool.{cond-false, and_left, le-ltb}
use Rattle.source.specs.Meanings.{Meaning, labelled}
use Rattle.source.specs.Sets.{has}

-- one label for each pair of a set
abbrev pub card_label : ℕ → ℕ → ℕ → Option ℕ
card_label set label i = cond (nat_lt i 48 && has set i) (labelled label) None

-- ---- the laws that it owes

one_byte : (label l : ℕ) (b : Bool) → cond b (labelled label) None ≡ Some l → l < 256
one_byte label l true e = let below = mod_below label 256 (lit< tt) in let s : label % 256 ≡ l = cc in omega arith
one_byte label l false e = absurd (let z : ◌≡◌ {A = ℕ} 0 1 = cc in omega arith)

-- it is one byte
pub card_byte : (set label i l : ℕ) → card_label set label i ≡ Some l → l < 256
card_byte set label i l e = one_byte label l (nat_lt i 48 && has set i) e

-- nothing is told above pair 47
pub card_silent : (set label i : ℕ) → 48 ≤ i → card_label set label i ≡ None
card_silent set label i h = cond-false _ _ _ (and_left _ _ (le-ltb _ _ h))

-- what a card means
abbrev pub card : ℕ → ℕ → Meaning
card set label = record { label = card_label set label; one_byte = card_byte set label; silent_above = card_silent set label }
