-- The nationality file, damaged copies of it, and what the definitions say of them: computed, not assumed.
use Rattle.std.specs.Prelude.{◌≡◌, ℕ, true, false, List, [], ◌∷◌, ◌++◌, map, take, slice_set}
use Rattle.policy.specs.declared.decision.Decision.TheVariants.{Deny, Allow, NotApplicable}
use Rattle.policy.specs.Queries.{numbered}
use Rattle.policy.specs.Policies.{Attribute, pair, altered, Policy, always, combined, guarded, at_most, File, decision, valid}
use Rattle.policy.specs.Extended.{answer_code}
use Rattle.policy.specs.Power.{swings, whole}
use Rattle.policy.specs.Reading.{Reading, fault, well, reads}

-- the bytes of the example file
abbrev pub nationality_file : List ℕ
nationality_file =
    0x50 ∷ 0x54 ∷ 0x41 ∷ 0x43 ∷ 0x01 ∷
    0x41 ∷ 0x6E ∷ 0x61 ∷ 0x74 ∷ 0x00 ∷ 0x00 ∷ 0x00 ∷ 0x00 ∷ 0x00 ∷ 0x02 ∷
    0x4D ∷ 0x00 ∷ 0x01 ∷
    0x74 ∷ 0x00 ∷ 0x31 ∷ 0x67 ∷ 0x74 ∷ 0x01 ∷ 0x30 ∷ 0x67 ∷ 0x62 ∷ 0x12 ∷ 0x2E ∷ []

-- its one attribute, of two pairs
abbrev pub nat : Attribute
nat = record { name = 0x6E ∷ 0x61 ∷ 0x74 ∷ 0 ∷ 0 ∷ 0 ∷ 0 ∷ 0 ∷ []; start = 0; count = 2 }

-- a file of this policy over the two nationalities, of which at most one holds
abbrev pub over_nat : Policy → File
over_nat p = record { attributes = nat ∷ []; pairs = 2; operators = []; constraints = at_most nat 1 ∷ []; policy = p }

-- deny overrides: the first may, the second may not
abbrev pub nationality : File
nationality = over_nat (combined (0 ∷ 0 ∷ 0 ∷ 0 ∷ 1 ∷ 1 ∷ 0 ∷ 1 ∷ 2 ∷ []) (guarded (pair nat 0) (always Allow)) (guarded (pair nat 1) (always Deny)))

-- deny whoever is known not to have the first
abbrev pub negated : File
negated = over_nat (guarded (altered 0 (pair nat 0)) (always Deny))

-- no end, a byte after the end, a limit above the count, the opening missing or cut short, more than 48 pairs, and a
-- policy with a negated target in the place of part four
abbrev pub readings : List Reading
readings =
    reads nationality_file
    ∷ reads (take 28 nationality_file)
    ∷ reads (nationality_file ++ (0x00 ∷ []))
    ∷ reads (slice_set nationality_file 17 3)
    ∷ reads []
    ∷ reads (take 3 nationality_file)
    ∷ reads (slice_set nationality_file 14 0x31)
    ∷ reads (take 18 nationality_file ++ (0x74 ∷ 0x00 ∷ 0x6E ∷ 0x00 ∷ 0x30 ∷ 0x67 ∷ 0x2E ∷ []))
    ∷ []

-- how many pairs a file that reads well has
abbrev pub pairs_read : Reading → ℕ
pairs_read (fault n p) = 0
pairs_read (well f) = f.pairs

-- the example, worked out
pub record Worked : Type 0 where
  pub read : readings ≡ well nationality ∷ fault 4 28 ∷ fault 10 29 ∷ fault 7 15 ∷ fault 3 0 ∷ fault 3 3 ∷ fault 7 5 ∷ well negated ∷ []
  pub most_pairs : pairs_read (reads (slice_set nationality_file 14 0x30)) ≡ 48
  -- at no pair, the first, the second and both
  pub decisions : map (λ m. decision nationality (numbered m)) (0 ∷ 1 ∷ 2 ∷ 3 ∷ []) ≡ 2 ∷ 1 ∷ 0 ∷ 0 ∷ []
  pub validity : map (λ m. valid nationality (numbered m)) (0 ∷ 1 ∷ 2 ∷ 3 ∷ []) ≡ true ∷ true ∷ true ∷ false ∷ []
  -- at the three valid queries: all three decisions, allow alone, deny alone
  pub extended : map (λ m. answer_code nationality (numbered m)) (0 ∷ 1 ∷ 2 ∷ []) ≡ 7 ∷ 2 ∷ 1 ∷ []
  -- of the first nationality, for allow and for not applicable
  pub power : (swings nationality 0 Allow ≡ 1) × (whole nationality Allow ≡ 1) × (swings nationality 0 NotApplicable ≡ 0) × (whole nationality NotApplicable ≡ 0)
  -- with no nationality at all the negated target does not match
  pub negation : map (λ m. decision negated (numbered m)) (0 ∷ 2 ∷ []) ≡ 2 ∷ 0 ∷ []
