-- What the errors of the lexer say.
use Rattle.std.specs.Prelude.{◌≡◌, ⊤, Result, Err, List}
use Rattle.fc_syntax.specs.declared.fault.FaultKind.TheVariants as fault
use Rattle.fc_syntax.specs.declared.token.TokenKind.{TokenKind}
use Rattle.fc_syntax.specs.Tokens.{ByteFault, Lexeme}
use Rattle.fc_lex.specs.declared.LexError.{LexError}
use Rattle.fc_lex.specs.declared.LexError.TheVariants as error

-- the error tells the first fault of a text; out of memory tells nothing of it
abbrev pub IsFirstFault : Result (List Lexeme) ByteFault → LexError → Type 0
IsFirstFault r (error.BadByte n) = r ≡ Err (record { kind = fault.BadByte; at = n })
IsFirstFault r (error.BadToken n) = r ≡ Err (record { kind = fault.BadToken; at = n })
IsFirstFault r (error.LiteralRange n) = r ≡ Err (record { kind = fault.LiteralRange; at = n })
IsFirstFault r error.Memory = ⊤

-- the error tells the fault of a word
abbrev pub IsWordFault : Result TokenKind ByteFault → LexError → Type 0
IsWordFault r (error.BadByte n) = r ≡ Err (record { kind = fault.BadByte; at = n })
IsWordFault r (error.BadToken n) = r ≡ Err (record { kind = fault.BadToken; at = n })
IsWordFault r (error.LiteralRange n) = r ≡ Err (record { kind = fault.LiteralRange; at = n })
IsWordFault r error.Memory = ⊥
