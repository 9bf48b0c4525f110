-- What the calls that change the bench answer, and what they leave.
use Rattle.std.specs.Prelude.{ℕ, Ok, Err, Result, slice_set}
use Rattle.diagram.specs.Store.{Store}
use Rattle.bench.specs.declared.fault.Fault.{Fault}
use Rattle.bench.specs.declared.fault.Fault.TheVariants.{Below}
use Rattle.bench.specs.declared.fault.LoadFault.TheVariants.{Table}
use Rattle.bench.specs.declared.fault.Reason.TheVariants.{Empty, AlreadyClosed}
use Rattle.bench.specs.declared.shelf.Draft.{Draft}
use Rattle.bench.specs.declared.shelf.Shelf.{Shelf}
use Rattle.bench.specs.declared.shelf.Shelf.TheVariants as shelf
use Rattle.bench.specs.Asking.{refuse, then, shelf_at, policy_at}
use Rattle.bench.specs.Closing.{Listing, no_lists, lists_done, listing}
use Rattle.bench.specs.State.{State}

-- a call's next state and its answer
abbrev pub Step : Type 0 → Type 0
Step A = State × Result A Fault

-- a call goes on with what was found, or is refused and leaves everything as it was
abbrev pub serve : {A B : Type 0} → State → Result A Fault → (A → Step B) → Step B
serve s (Ok x) next = next x
serve s (Err f) next = (s, Err f)

-- the nodes are t, and x stands on shelf k
abbrev pub put_shelf : State → Store → ℕ → Shelf → State
put_shelf s t k x = record { room = s.room; store = t; shelves = slice_set s.shelves k x }

-- the table was full
abbrev pub full_at : {A : Type 0} → State → ℕ → ℕ → Step A
full_at s k place = (s, Err (Below k (Table (record { place = place }))))

-- drop: the shelf is empty, and the nodes stay
abbrev pub drops : State → ℕ → Step (Unit {0})
drops s k = serve s (policy_at s k) (λ d. (put_shelf s s.store k shelf.Empty, Ok tt))

-- the policy on a shelf that is not closed yet
abbrev pub draft_on : ℕ → Shelf → Result Draft Fault
draft_on k shelf.Empty = refuse k Empty
draft_on k (shelf.Draft d) = Ok d
draft_on k (shelf.Closed d l) = refuse k AlreadyClosed

-- the policy on shelf k, where it is not closed yet, or the refusal
abbrev pub draft_at : State → ℕ → Result Draft Fault
draft_at s k = then (shelf_at s k) (draft_on k)

-- close, by what was built for the policy d of shelf k; where the table was full, nothing has changed
abbrev pub close_with : State → ℕ → Draft → Listing → Step (Unit {0})
close_with s k d no_lists = full_at s k 0
close_with s k d (lists_done t e r) = (put_shelf s t k (shelf.Closed d (record { lists = e; reaches = r })), Ok tt)

-- close: the shelf also has its lists
abbrev pub closes : State → ℕ → Step (Unit {0})
closes s k = serve s (draft_at s k) (λ d. close_with s k d (listing s.room s.store d))
