-- What the reader sees of tokens, and what it says where it stops.
use Rattle.std.specs.Prelude.{ℕ, Bool, List, drop, map, slice_range}
use Rattle.fc_log.specs.declared.cut.Piece.{Piece}
use Rattle.fc_log.specs.declared.cut.Token.{Token}
use Rattle.fc_log.specs.declared.cut.Token.TheVariants as token
use Rattle.fc_log.specs.Grammar.{LogToken, AWord, ALineEnd}
use Rattle.fc_log.specs.Texts.{Cut, cut_on}

abbrev pub seen_token : Token → LogToken
seen_token (token.Word w) = AWord w.now
seen_token token.LineEnd = ALineEnd

abbrev pub seen : Piece → Cut
seen p = record { at = p.at; token = seen_token p.token }

abbrev pub seen_all : List Piece → List Cut
seen_all ps = map seen ps

-- the tokens of the bytes from one on, where a word has begun at a byte before
abbrev pub uncut : List ℕ → Bool → ℕ → ℕ → List Cut
uncut bytes fresh begun at = cut_on fresh begun at (slice_range bytes begun at) (drop at bytes)
