-- What a reader answers.
use Rattle.std.specs.Prelude.{◌≡◌, ⊤, List, [], ◌∷◌, Option, Some, None}
use Rattle.fc_syntax.specs.declared.keyword.Keyword.TheVariants as word
use Rattle.fc_model.specs.Words.{Tok, Open, Key}
use Rattle.fc_model.specs.Grammar.{Part, Given, Steps, ◌▸◌, Many}
use Rattle.fc_model.specs.Reading.{Stuck, read_steps}
use Rattle.fc_read_parts.specs.declared.parts.Stop.{Stop}
use Rattle.fc_read_parts.specs.declared.parts.Stop.TheVariants as stop

-- the tokens begin with a text of what is given, and the rest follows it, whatever is still to come
abbrev pub Takes : (p : Part) → List Tok → Given p → List Tok → Type 0
Takes p ts x rest = (q : Part) (f : Given p → Steps (Given q)) → read_steps ts (p ▸ f) ≡ read_steps rest (f x)

-- a fault is where the tokens cannot go on, whatever is still to come
abbrev pub StopsAt : Part → List Tok → Stop → Type 0
StopsAt p ts stop.Memory = ⊤
StopsAt p ts (stop.Form n) = (q : Part) (f : Given p → Steps (Given q)) → read_steps ts (p ▸ f) ≡ Stuck n

-- no closing bracket comes first, so what may be repeated goes on
abbrev pub GoesOn : List Tok → Type 0
GoesOn ts = (p q : Part) (f : List (Given p) → Steps (Given q)) → read_steps ts (Many p ▸ f) ≡ read_steps ts (p ▸ λ x. Many p ▸ λ xs. f (x ∷ xs))

-- an opening bracket and the word `hidden` do not come first
abbrev pub NotHidden : List Tok → Type 0
NotHidden ts = (us : List Tok) → ts ≡ Open ∷ Key word.Hidden ∷ us → ⊥

-- the first of these tokens
abbrev pub first_tok : List Tok → Option Tok
first_tok [] = None
first_tok (t ∷ ts) = Some t
