-- What the readers see of a token.
use Rattle.std.specs.Prelude.{List, map}
use Rattle.fc_model.specs.Words.{Tok, Open, Close, Key, Lower, Upper, LowerOf, UpperOf, Star, Hash, Arrow, Operator, Literal, Number, Other}
use Rattle.fc_read_parts.specs.declared.terminal.Terminal.{Terminal}
use Rattle.fc_read_parts.specs.declared.terminal.Terminal.TheVariants as terminal
use Rattle.fc_read_parts.specs.declared.parts.Tokens.{Tokens}

-- the grammar's token
abbrev pub seen : Terminal → Tok
seen terminal.Open = Open
seen terminal.Close = Close
seen (terminal.Key k) = Key k
seen (terminal.Lower w) = Lower w.now
seen (terminal.Upper w) = Upper w.now
seen (terminal.LowerOf m w) = LowerOf m.now w.now
seen (terminal.UpperOf m w) = UpperOf m.now w.now
seen terminal.Star = Star
seen terminal.Hash = Hash
seen terminal.Arrow = Arrow
seen (terminal.Operator o) = Operator o
seen (terminal.Literal n) = Literal n
seen (terminal.Number n) = Number n
seen terminal.Other = Other

abbrev pub seen_all : List Terminal → List Tok
seen_all ts = map seen ts

-- the tokens that are still to be read
abbrev pub ahead : Tokens → List Tok
ahead t = seen_all t.rest.now
