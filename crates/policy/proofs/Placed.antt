-- Names and digits stand in the file that they were read from.
use Rattle.std.proofs.Common.{◌≡◌, ℕ, zero, suc, ◌+◌, ◌≤◌, true, List, [], ◌∷◌, length, take, drop, sym, refl, ap, ◌∙◌, subst, arith, bytes_eq, ⊎_elim, take-take, length-take, length-take-le, length-drop}
use Rattle.std.proofs.lemmas.Bool.{and_from, and_parts, eq-eqb, eqb-true, or_left, or_right, or_cases}
use Rattle.std.proofs.lemmas.Slice.Eq.{bytes_eq-Decides}
use Rattle.policy.specs.declared.opcode.Opcode.{Opcode}
use Rattle.policy.specs.declared.opcode.Opcode.TheVariants.{Attribute, Operator, Exclusion, AtMost, AtLeast, Pair, Allow, Deny, Change, Combine, Guard, End}
use Rattle.policy.specs.declared.reader.Reader.{Reader}
use Rattle.policy.specs.declared.reader.steps.Checked.{Checked}
use Rattle.policy.specs.Commands.{bytes_from, size, command}
use Rattle.policy.specs.Commands as c
use Rattle.policy.specs.Placed.{stands_in, part_of}
use Rattle.policy.specs.View as view
use Rattle.policy.specs.View.{InOrder, progress, bytes, place}
use Rattle.policy.proofs.Scans.{step_takes}

-- so many bytes from a place on stand in the file, where it has so many
pub part_stands : (file : List ℕ) (p n : ℕ) → p + n ≤ length file → stands_in file (bytes_from file p n) ≡ true
unfolding stands_in
part_stands [] zero zero h = refl
part_stands [] zero (suc n) h = absurd (omega arith)
part_stands [] (suc p) n h = absurd (omega arith)
part_stands (b ∷ file) zero n h =
    let long : length (take n (b ∷ file)) ≡ n = length-take-le n (b ∷ file) (omega arith) in
    or_left _ _ ((bytes_eq-Decides (take (length (take n (b ∷ file))) (b ∷ file)) (take n (b ∷ file))).1 (ap (λ m. take m (b ∷ file)) long))
part_stands (b ∷ file) (suc p) n h = or_right (bytes_eq (take (length (bytes_from file p n)) (b ∷ file)) (bytes_from file p n)) _ (part_stands file p n (omega arith))

part_is : (file : List ℕ) (p n : ℕ) → p + n ≤ length file → part_of file n (bytes_from file p n) ≡ true
part_is file p n h =
    let room = length-drop p file in
    and_from _ _ (eq-eqb _ _ (length-take-le n (drop p file) (omega arith))) (part_stands file p n h)

module _ (file : List ℕ) (p : ℕ) where
  attribute_stands : (o : Opcode) (name : List ℕ) (count : ℕ) → c.attribute name count ≡ command file p o → p + 1 + size o ≤ length file → part_of file 8 name ≡ true
  attribute_stands Attribute name count e w =
      let is : name ≡ take 8 (bytes_from file (p + 1) 9) = cc in
      subst (λ bs. part_of file 8 bs ≡ true) (sym (is ∙ take-take 8 9 (drop (p + 1) file) (omega arith))) (part_is file (p + 1) 8 (omega arith))
  attribute_stands Operator name count e w = absurd cc
  attribute_stands Exclusion name count e w = absurd cc
  attribute_stands AtMost name count e w = absurd cc
  attribute_stands AtLeast name count e w = absurd cc
  attribute_stands Pair name count e w = absurd cc
  attribute_stands Allow name count e w = absurd cc
  attribute_stands Deny name count e w = absurd cc
  attribute_stands Change name count e w = absurd cc
  attribute_stands Combine name count e w = absurd cc
  attribute_stands Guard name count e w = absurd cc
  attribute_stands End name count e w = absurd cc

  operator_stands : (o : Opcode) (ds : List ℕ) → c.operator ds ≡ command file p o → p + 1 + size o ≤ length file → part_of file 9 ds ≡ true
  operator_stands Operator ds e w =
      let is : ds ≡ bytes_from file (p + 1) 9 = cc in
      subst (λ bs. part_of file 9 bs ≡ true) (sym is) (part_is file (p + 1) 9 (omega arith))
  operator_stands Attribute ds e w = absurd cc
  operator_stands Exclusion ds e w = absurd cc
  operator_stands AtMost ds e w = absurd cc
  operator_stands AtLeast ds e w = absurd cc
  operator_stands Pair ds e w = absurd cc
  operator_stands Allow ds e w = absurd cc
  operator_stands Deny ds e w = absurd cc
  operator_stands Change ds e w = absurd cc
  operator_stands Combine ds e w = absurd cc
  operator_stands Guard ds e w = absurd cc
  operator_stands End ds e w = absurd cc

-- a command that is in order has its name, or its digits, from the file
module _ (x : Checked) (r : Reader) (o : InOrder x r) where
  pub name_stands : (name : List ℕ) (count : ℕ) → view.command x.command ≡ c.attribute name count → part_of (bytes r) 8 name ≡ true
  name_stands name count e =
      let t = step_takes (progress r) (bytes r) (place r) (view.command x.command) _ _ (sym o.is) in
      attribute_stands (bytes r) (place r) t.op name count (sym e ∙ t.is) t.within

  pub digits_stand : (ds : List ℕ) → view.command x.command ≡ c.operator ds → part_of (bytes r) 9 ds ≡ true
  digits_stand ds e =
      let t = step_takes (progress r) (bytes r) (place r) (view.command x.command) _ _ (sym o.is) in
      operator_stands (bytes r) (place r) t.op ds (sym e ∙ t.is) t.within

-- what stands in a file is no longer than the file
stands_long : (file bs : List ℕ) → stands_in file bs ≡ true → length bs ≤ length file
unfolding stands_in
stands_long [] bs e = let same = (bytes_eq-Decides [] bs).0 e in let long = ap length same in omega arith
stands_long (b ∷ file) bs e =
    ⊎_elim
    (λ (here : bytes_eq (take (length bs) (b ∷ file)) bs ≡ true).
    let same = ap length ((bytes_eq-Decides (take (length bs) (b ∷ file)) bs).0 here) in
    let long = length-take (length bs) (b ∷ file) in
    omega arith)
    (λ (later : stands_in file bs ≡ true). let le = stands_long file bs later in omega arith)
    (or_cases _ _ e)

pub part_long : (file : List ℕ) (n : ℕ) (bs : List ℕ) → part_of file n bs ≡ true → n ≤ length file
part_long file n bs e =
    let h = and_parts _ _ e in
    let long = eqb-true (length bs) n h.0 in
    let le = stands_long file bs h.1 in
    omega arith
