-- Slips: the walk over their entries, and bytes for every meaning.
use Rattle.std.proofs.Common.{◌≡◌, ℕ, zero, suc, ◌-◌, ◌<◌, ◌≤◌, cond, ◌&&◌, eqb, ltb, List, [], ◌∷◌, length, get_or, take, drop, Some, None, Option, sym, refl, ap, ◌∙◌, ⊎_elim, mod-eq_of_lt, arith, lit<}
use Rattle.std.proofs.lemmas.List.{take_all}
use Rattle.std.proofs.lemmas.Bool.{cond-true, cond-false, cases_lt, cases_eq, eq-eqb, ne_eqb, lt-ltb, le-ltb, and_left, and_from}
use Rattle.source.specs.Meanings.{Meaning, labelled}
use Rattle.source.specs.Slip.{slip_label, HeldBySlip}

-- ---- one entry after the other

-- the bytes after the first entry
later : List ℕ → List ℕ
later bs = take (length bs - 2) (drop 2 bs)

at_entry : (bs : List ℕ) (i : ℕ) → 2 ≤ length bs → slip_label bs i ≡ cond (eqb (get_or bs 0 0) i && ltb i 48) (labelled (get_or bs 1 0)) (slip_label (later bs) i)
unfolding slip_label later
at_entry [] i h = absurd (omega arith)
at_entry (p ∷ []) i h = absurd (omega arith)
at_entry (p ∷ l ∷ rest) i h = ap (λ xs. cond (eqb p i && ltb i 48) (labelled l) (slip_label xs i)) (sym (take_all (length (p ∷ l ∷ rest) - 2) rest (omega arith)))

pub found : (bs : List ℕ) (i : ℕ) → 2 ≤ length bs → i < 48 → get_or bs 0 0 ≡ i → slip_label bs i ≡ labelled (get_or bs 1 0)
found bs i h w e = at_entry bs i h ∙ cond-true _ _ _ (and_from _ _ (eq-eqb _ _ e) (lt-ltb _ _ w))

pub passed : (bs : List ℕ) (i : ℕ) → 2 ≤ length bs → (get_or bs 0 0 ≡ i → ⊥) → slip_label bs i ≡ slip_label (take (length bs - 2) (drop 2 bs)) i
unfolding later
passed bs i h ne = at_entry bs i h ∙ cond-false _ _ _ (and_left _ _ (ne_eqb _ _ ne))

pub few : (bs : List ℕ) (i : ℕ) → length bs < 2 → slip_label bs i ≡ None
unfolding slip_label
few [] i h = refl
few (b ∷ []) i h = refl
few (b ∷ c ∷ bs) i h = absurd (omega arith)

-- ---- bytes for a meaning: an entry for each pair below n that it tells

entry : ℕ → Option ℕ → List ℕ → List ℕ
entry k None rest = rest
entry k (Some l) rest = k ∷ l ∷ rest

written : ℕ → Meaning → List ℕ
written zero m = []
written (suc k) m = entry k (m.label k) (written k m)

module _ (m : Meaning) where
  entry_bytes : (k : ℕ) (o : Option ℕ) (rest : List ℕ) → k < 48 → m.label k ≡ o → ((j : ℕ) → get_or rest j 0 < 256) → (j : ℕ) → get_or (entry k o rest) j 0 < 256
  unfolding entry
  entry_bytes k None rest h e b j = b j
  entry_bytes k (Some l) rest h e b zero = let z : k < 256 = omega arith in z
  entry_bytes k (Some l) rest h e b (suc zero) = m.one_byte k l e
  entry_bytes k (Some l) rest h e b (suc (suc j)) = b j

  written_bytes : (n : ℕ) → n ≤ 48 → (j : ℕ) → get_or (written n m) j 0 < 256
  unfolding written
  written_bytes zero h j = lit< tt
  written_bytes (suc k) h j = entry_bytes k (m.label k) (written k m) h refl (written_bytes k (omega arith)) j

  -- the new entry is for k alone
  entry_means : (k : ℕ) (o : Option ℕ) (rest : List ℕ) (i : ℕ) → k < 48 → m.label k ≡ o → slip_label rest i ≡ cond (ltb i k) (m.label i) None → slip_label (entry k o rest) i ≡ cond (ltb i (suc k)) (m.label i) None
  unfolding entry slip_label
  entry_means k o rest i h e r = ⊎_elim (here o e) (λ (ne : k ≡ i → ⊥). there o ne) (cases_eq k i)
    where
      under : (x : Option ℕ) → k ≡ i → m.label k ≡ x → cond (ltb i (suc k)) (m.label i) None ≡ x
      under x s f = let up : i < suc k = omega arith in cond-true _ _ _ (lt-ltb _ _ up) ∙ ap m.label (sym s) ∙ f

      here : (x : Option ℕ) → m.label k ≡ x → k ≡ i → slip_label (entry k x rest) i ≡ cond (ltb i (suc k)) (m.label i) None
      here None f s = let up : k ≤ i = omega arith in r ∙ cond-false _ _ _ (le-ltb _ _ up) ∙ sym (under None s f)
      here (Some l) f s =
          let low : i < 48 = omega arith in
          cond-true _ _ _ (and_from _ _ (eq-eqb _ _ s) (lt-ltb _ _ low)) ∙ ap Some (mod-eq_of_lt (m.one_byte k l f)) ∙ sym (under (Some l) s f)

      same : (k ≡ i → ⊥) → ltb i k ≡ ltb i (suc k)
      same ne = ⊎_elim (λ (lt : i < k). let up : i < suc k = omega arith in lt-ltb _ _ lt ∙ sym (lt-ltb _ _ up)) (λ (le : k ≤ i). let up : suc k ≤ i = omega arith in le-ltb _ _ le ∙ sym (le-ltb _ _ up)) (cases_lt i k)

      there : (x : Option ℕ) → (k ≡ i → ⊥) → slip_label (entry k x rest) i ≡ cond (ltb i (suc k)) (m.label i) None
      there None ne = r ∙ ap (λ b. cond b (m.label i) None) (same ne)
      there (Some l) ne = cond-false _ _ _ (and_left _ _ (ne_eqb _ _ ne)) ∙ r ∙ ap (λ b. cond b (m.label i) None) (same ne)

  written_means : (n i : ℕ) → n ≤ 48 → slip_label (written n m) i ≡ cond (ltb i n) (m.label i) None
  unfolding written slip_label
  written_means zero i h = let low : 0 ≤ i = omega arith in sym (cond-false _ _ _ (le-ltb _ _ low))
  written_means (suc k) i h = entry_means k (m.label k) (written k m) i h refl (written_means k i (omega arith))

  pub held : HeldBySlip m
  held = record { bytes = written 48 m; are_bytes = written_bytes 48 (omega arith); means = λ i. written_means 48 i (omega arith) ∙ below i }
    where
      below : (i : ℕ) → cond (ltb i 48) (m.label i) None ≡ m.label i
      below i = ⊎_elim (λ (lt : i < 48). cond-true _ _ _ (lt-ltb _ _ lt)) (λ (le : 48 ≤ i). cond-false _ _ _ (le-ltb _ _ le) ∙ sym (m.silent_above i le)) (cases_lt i 48)
