-- What is refused of a file whose bytes are no tokens.
use Rattle.std.specs.Prelude.{◌≡◌, ℕ, List}
use Rattle.fc_syntax.specs.declared.fault.FaultKind.TheVariants as kind
use Rattle.fc_syntax.specs.declared.fault.Refusal.{Refusal}
use Rattle.fc_syntax.specs.declared.fault.Refusal.TheVariants as refusal
use Rattle.fc_lex.specs.declared.LexError.{LexError}
use Rattle.fc_lex.specs.declared.LexError.TheVariants as error
use Rattle.fc_read_parts.specs.Refusing.{IsRefusalAt}

-- the refusal tells the fault of the tokens
abbrev pub IsRefusalOf : List ℕ → LexError → Refusal → Type 0
IsRefusalOf file (error.BadByte n) r = IsRefusalAt file kind.BadByte n r
IsRefusalOf file (error.BadToken n) r = IsRefusalAt file kind.BadToken n r
IsRefusalOf file (error.LiteralRange n) r = IsRefusalAt file kind.LiteralRange n r
IsRefusalOf file error.Memory r = r ≡ refusal.Memory
