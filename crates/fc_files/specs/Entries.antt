-- Lists of entries, each a name with its bytes, and what they make each name hold.
use Rattle.std.specs.Prelude.{ℕ, Bool, true, List, [], ◌∷◌, Option, option_map, find, String, Vec, string_bytes, not, ◌&&◌, IsTrue}
use Rattle.std.specs.List.{list_any}
use Rattle.std.specs.Str.{bytes_eq}
use Rattle.std.specs.declared.alloc.Global.{Global}
use Rattle.fc_files.specs.Outside.{FileMap}

-- a name with its bytes
abbrev pub Entry : Type 0
Entry = String Global × Vec ℕ Global

-- the entry has this name
abbrev pub is_named : List ℕ → Entry → Bool
is_named q e = bytes_eq (string_bytes e.0) q

-- the bytes of an entry that was found
abbrev pub bytes_found : Option Entry → Option (List ℕ)
bytes_found found = option_map (λ e. e.1.items) found

-- each name holds what the first entry of that name has
abbrev pub map_of : List Entry → FileMap
map_of es q = bytes_found (find (is_named q) es)

-- no entry has the name of a later one
abbrev pub has_distinct_names : List Entry → Bool
has_distinct_names [] = true
has_distinct_names (e ∷ es) = not (list_any (is_named (string_bytes e.0)) es) && has_distinct_names es

-- no two entries have the same name
abbrev pub HasDistinctNames : List Entry → Type 0
HasDistinctNames es = IsTrue (has_distinct_names es)
