-- How many of some neighbouring pairs are present.
use Rattle.std.proofs.Common.{◌≡◌, ℕ, zero, suc, ◌+◌, cond, sym, refl, ap, ◌∙◌, add-zero, add_assoc, suc-add, zero-add, arith}
use Rattle.policy.specs.Queries.{Query}
use Rattle.policy.specs.Policies.{present_from}

-- those of the first pairs, and those of the rest
pub present_split : (q : Query) (s m n : ℕ) → present_from q s (m + n) ≡ present_from q s m + present_from q (s + m) n
unfolding present_from
present_split q s zero n = rw (zero-add n, zero-add (present_from q (s + 0) n), add-zero s)
present_split q s (suc m) n =
    let next : s + 1 + m ≡ s + suc m = omega arith in
    ap (present_from q s) (suc-add m n)
    ∙ ap (λ x. cond (q s) 1 0 + x) (present_split q (s + 1) m n ∙ ap (λ x. present_from q (s + 1) m + present_from q x n) next)
    ∙ sym (add_assoc (cond (q s) 1 0) (present_from q (s + 1) m) (present_from q (s + suc m) n))

-- the last pair
pub present_last : (q : Query) (s n : ℕ) → present_from q s (suc n) ≡ present_from q s n + cond (q (s + n)) 1 0
unfolding present_from
present_last q s n =
    let one : suc n ≡ n + 1 = omega arith in
    ap (present_from q s) one ∙ present_split q s n 1 ∙ ap (λ x. present_from q s n + x) (add-zero (cond (q (s + n)) 1 0))

pub present_none : (q : Query) (s : ℕ) → present_from q s 0 ≡ 0
unfolding present_from
present_none q s = refl
