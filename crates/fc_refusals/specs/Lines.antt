-- The line of a refusal.
use Rattle.std.specs.Prelude.{ℕ, List, [], ◌∷◌, ◌++◌, codes, decimal, Option, Some, None}
use Rattle.fc_syntax.specs.Faults.{fault_number, fault_word}
use Rattle.fc_syntax.specs.declared.fault.Fault.{Fault}
use Rattle.fc_syntax.specs.declared.fault.Place.{Place}
use Rattle.fc_syntax.specs.declared.fault.Place.TheVariants as place

-- numbers, each behind a dot
abbrev pub dotted_text : List ℕ → List ℕ
dotted_text [] = []
dotted_text (n ∷ ns) = 46 ∷ decimal n ++ dotted_text ns

-- part numbers joined by dots, and a hyphen where there are none
abbrev pub parts_text : List ℕ → List ℕ
parts_text [] = codes "-"
parts_text (n ∷ ns) = decimal n ++ dotted_text ns

-- a byte behind `@`, part numbers, or a hyphen where the fault stands at no place
abbrev pub place_text : Place → List ℕ
place_text place.Nowhere = codes "-"
place_text (place.Byte at) = 64 ∷ decimal at
place_text (place.Parts path) = parts_text path

-- the word of a declaration, and a hyphen where the fault stands in none
abbrev pub definition_text : Option (List ℕ) → List ℕ
definition_text None = codes "-"
definition_text (Some w) = w

-- the line of a refusal: number and word of the fault, module or file, declaration, place
abbrev pub refusal_line : Fault → List ℕ
refusal_line f =
    codes "refused " ++ decimal (fault_number f.kind) ++ 32 ∷ [] ++ fault_word f.kind ++ 32 ∷ [] ++ f.module ++ 32 ∷ []
    ++ definition_text f.def ++ 32 ∷ [] ++ place_text f.path ++ 10 ∷ []
