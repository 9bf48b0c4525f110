-- The lines of a file's commands.
use Rattle.std.specs.Prelude.{◌≡◌, ℕ, ◌+◌, ◌-◌, List, [], ◌∷◌, ◌++◌, length, Ok, Err, codes, decimal, Result}
use Rattle.std.specs.List.{flat_map}
use Rattle.policy.specs.Commands.{Context, Command, attribute, operator, restrict, act, exclusion, most, least, push_pair, push, change, combine, guard, end, Action, declares}
use Rattle.policy.specs.declared.reader.Reader.{Reader}
use Rattle.policy.specs.View.{context, place, ahead}
use Rattle.inspect.specs.declared.text.Text.{Text}
use Rattle.inspect.specs.Plain.{kept}
use Rattle.inspect.specs.Written.{Added}
use Rattle.inspect.specs.Names.{change_name, operator_name, constant_name, attribute_text, pair_text}

-- the code of the own operator that was declared last
abbrev pub newest_code : Context → ℕ
newest_code x = 0x20 + (length x.operators - 1)

-- digits, one after another
abbrev pub digits_text : List ℕ → List ℕ
digits_text ds = flat_map decimal ds

-- these words, the limit and the attribute's name
abbrev pub limit_text : Context → List ℕ → ℕ → ℕ → List ℕ
limit_text x words limit number = words ++ (decimal limit ++ (codes " of " ++ attribute_text x number))

-- what a command does, after the declarations up to and with it
abbrev pub operands_text : Context → Command → List ℕ
operands_text x (attribute name count) = codes "attribute " ++ (kept name ++ (codes " " ++ decimal count))
operands_text x (operator ds) = codes "operator " ++ (operator_name (newest_code x) ++ (codes " " ++ digits_text ds))
operands_text x (restrict (exclusion i j)) = codes "never " ++ (pair_text x i ++ (codes " and " ++ pair_text x j))
operands_text x (restrict (most a k)) = limit_text x (codes "at most ") k a
operands_text x (restrict (least a k)) = limit_text x (codes "at least ") k a
operands_text x (act (push_pair i)) = codes "pair " ++ pair_text x i
operands_text x (act (push d)) = constant_name d
operands_text x (act (change code)) = codes "change " ++ change_name code
operands_text x (act (combine code)) = codes "combine " ++ operator_name code
operands_text x (act guard) = codes "guard"
operands_text x (act end) = codes "end"

-- the place of a command and what it does
abbrev pub line_text : Context → ℕ → Command → List ℕ
line_text x place c = decimal place ++ (codes " " ++ (operands_text x c ++ (10 ∷ [])))

-- how many bytes of operands an action has
abbrev pub action_size : Action → ℕ
action_size (push_pair i) = 1
action_size (push d) = 0
action_size (change code) = 1
action_size (combine code) = 1
action_size guard = 0
action_size end = 0

-- how many bytes the operands of a command have
abbrev pub size_of : Command → ℕ
size_of (attribute name count) = 9
size_of (operator ds) = 9
size_of (restrict r) = 2
size_of (act a) = action_size a

-- the lines of some commands, the first of which begins at this place
unfoldable pub lines_text : Context → ℕ → List Command → List ℕ
lines_text x place [] = []
lines_text x place (c ∷ cs) = line_text (declares c x) place c ++ lines_text (declares c x) (place + 1 + size_of c) cs

-- what is declared after some commands
abbrev pub after : Context → List Command → Context
after x [] = x
after x (c ∷ cs) = after (declares c x) cs

-- the lines of all commands ahead of a reader were added, and the reader knows what they declare
pub record Listed (old new : Text) (first last : Reader) : Type 0 where
  pub text : Added old new (lines_text (context first) (place first) (ahead first).commands)
  pub known : context last ≡ after (context first) (ahead first).commands

-- lists what a reader has ahead, unless memory is wanting
abbrev pub Lists : {E : Type 0} → Result (Unit {0}) E → Text → Text → Reader → Reader → Type 0
Lists (Ok u) old new first last = Listed old new first last
Lists (Err e) old new first last = Unit {0}
