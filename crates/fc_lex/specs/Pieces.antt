-- What the lexer reads at a time.
use Rattle.std.specs.Prelude.{ℕ, List, Option, Some, None, Result, Ok, slice_range}
use Rattle.fc_syntax.specs.declared.token.TokenKind.{TokenKind}
use Rattle.fc_syntax.specs.Tokens.{ByteFault, Lexeme, then_lexemes}

-- the tokens of a text whose bytes from `at` up to `end` are a token of that kind, or none, before those that follow
abbrev pub then_piece : List ℕ → ℕ → ℕ → Option TokenKind → Result (List Lexeme) ByteFault → Result (List Lexeme) ByteFault
then_piece bytes at end None rest = rest
then_piece bytes at end (Some k) rest = then_lexemes (Ok (record { from = at; text = slice_range bytes at end; kind = k })) rest
