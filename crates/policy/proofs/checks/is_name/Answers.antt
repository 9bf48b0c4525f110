use Rattle.std.proofs.Common.{◌≡◌, true, false, not, ◌&&◌, eqb, length, get_or, sym, ap, ◌∙◌, subst, ⊎_elim, arith}
use Rattle.std.proofs.lemmas.Bool.{and_from, and_left, and_right, cases_eq, eq-eqb, le-leb, le-ltb, lt-leb, ne_eqb}
use Rattle.std.proofs.lemmas.List.{get_or_past, take_rest}
use Rattle.policy.specs.Commands.{padded, printable, is_name, zeros}
use Rattle.policy.proofs.Spelling.{padded_zero, padded_more, padded_end}
use Rattle.policy.proofs.checks.is_name.Goals as goal
use Rattle.policy.proofs.checks.is_name.Goals.{then-byte-lt-FIRST_PRINTABLE-via-then-byte-lt-FIRST_PRINTABLE, then-byte-lt-FIRST_PRINTABLE-via-else-byte-lt-FIRST_PRINTABLE+then-byte-gt-LAST_PRINTABLE}

pub returns-then-i-gt0 : goal.returns-then-i-gt0
unfolding is_name
returns-then-i-gt0 c =
    let bs = c.args.name.now in
    let i = c.loop-i.i in
    let some = c.loop-i.invariant.1 c.if-i-gt0.true in
    c.are_zeros.ensures ∙ ap zeros (take_rest bs i) ∙ sym (ap (λ t. not t && padded bs) some ∙ c.loop-i.invariant.0 ∙ padded_zero bs i c.loop-i-test.true c.if-byte-eq0.true)

pub returns-else-i-gt0 : goal.returns-else-i-gt0
unfolding is_name
returns-else-i-gt0 c =
    let bs = c.args.name.now in
    let none : c.loop-i.i ≡ 0 = omega arith in
    let zero : eqb (get_or bs 0 0) 0 ≡ true = eq-eqb _ _ (subst (λ i. get_or bs i 0 ≡ 0) none c.if-byte-eq0.true) in
    le-ltb _ _ (omega arith) ∙ sym (ap (λ t. not t && padded bs) zero)

pub returns-then-byte-lt-FIRST_PRINTABLE : goal.returns-then-byte-lt-FIRST_PRINTABLE
unfolding is_name
returns-then-byte-lt-FIRST_PRINTABLE c =
    let bs = c.args.name.now in
    let i = c.loop-i.i in
    let other : printable (get_or bs i 0) ≡ false = elim c.then-byte-lt-FIRST_PRINTABLE.branch [
      | then-byte-lt-FIRST_PRINTABLE-via-then-byte-lt-FIRST_PRINTABLE w ↦ and_left _ _ (lt-leb _ _ w.if-byte-lt-FIRST_PRINTABLE.true)
      | then-byte-lt-FIRST_PRINTABLE-via-else-byte-lt-FIRST_PRINTABLE+then-byte-gt-LAST_PRINTABLE w ↦ and_right _ _ (lt-leb _ _ w.if-byte-gt-LAST_PRINTABLE.true)
    ] in
    sym (and_right _ _ (c.loop-i.invariant.0 ∙ padded_more bs i c.loop-i-test.true c.if-byte-eq0.false false other))

pub loop-i-preserved : goal.loop-i-preserved
loop-i-preserved c =
    let bs = c.args.name.now in
    let i = c.loop-i.i in
    let letter = and_from _ _ (le-leb _ _ c.if-byte-lt-FIRST_PRINTABLE.false) (le-leb _ _ c.if-byte-gt-LAST_PRINTABLE.false) in (
      c.loop-i.invariant.0 ∙ padded_more bs i c.loop-i-test.true c.if-byte-eq0.false true letter,
      λ _. ⊎_elim
          (λ (z : i ≡ 0). ne_eqb _ _ (subst (λ j. get_or bs j 0 ≡ 0 → ⊥) z c.if-byte-eq0.false))
          (λ (z : i ≡ 0 → ⊥). c.loop-i.invariant.1 (omega arith))
          (cases_eq i 0),
    )

pub returns : goal.returns
unfolding is_name
returns c =
    let bs = c.args.name.now in
    let all = c.loop-i.invariant.0 ∙ padded_end bs c.loop-i.i c.loop-i-test.false in
    ⊎_elim
    (λ (z : length bs ≡ 0). ap not (c.is_empty.ensures ∙ eq-eqb _ _ z) ∙ sym (ap (λ t. not t && padded bs) (eq-eqb _ _ (get_or_past bs 0 0 (omega arith)))))
    (λ (z : length bs ≡ 0 → ⊥). ap not (c.is_empty.ensures ∙ ne_eqb _ _ z) ∙ sym (ap (λ t. not t && padded bs) (c.loop-i.invariant.1 (omega arith)) ∙ all))
    (cases_eq (length bs) 0)
