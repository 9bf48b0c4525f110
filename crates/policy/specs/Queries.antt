-- Queries: which attribute-value pairs are said to hold of a user.
--
-- Pairs are numbered from 0. A file with n pairs looks at those below n only, so a query over it is one of 2^n.
use Rattle.std.specs.Prelude.{◌≡◌, ℕ, zero, suc, ◌+◌, ◌/◌, ◌%◌, ◌^◌, ◌<◌, Bool, true, false, cond, ◌||◌, ◌==◌}

-- is the pair present?
abbrev pub Query : Type 0
Query = ℕ → Bool

-- nothing is present
abbrev pub none : Query
none i = false

-- the query with this number: the pair i weighs 2^i
abbrev pub numbered : ℕ → Query
numbered m i = (m / 2 ^ i) % 2 == 1

-- q with the pair k added
abbrev pub adding : Query → ℕ → Query
adding q k i = i == k || q i

-- q is contained in p: each pair below n that q has, p has too
abbrev pub Contained : ℕ → Query → Query → Type 0
Contained n q p = (i : ℕ) → i < n → q i ≡ true → p i ≡ true

-- p and q have the same pairs below n
abbrev pub Agree : ℕ → Query → Query → Type 0
Agree n p q = (i : ℕ) → i < n → p i ≡ q i

-- does some pair below n pass the test?
unfoldable pub some_pair : ℕ → (ℕ → Bool) → Bool
some_pair zero test = false
some_pair (suc k) test = test k || some_pair k test

-- does some query that has all of q, and whichever pairs below n besides, pass the test?
unfoldable pub some_query : ℕ → (Query → Bool) → Query → Bool
some_query zero test q = test q
some_query (suc k) test q = some_query k test q || some_query k test (adding q k)

-- how many of the 2^n ways of adding pairs below n to q pass the test; over `none` these are the 2^n queries
unfoldable pub tally : ℕ → (Query → Bool) → Query → ℕ
tally zero test q = cond (test q) 1 0
tally (suc k) test q = tally k test q + tally k test (adding q k)
