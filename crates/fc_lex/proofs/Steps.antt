-- The tokens of a text from a byte on, a piece at a time.
use Rattle.std.proofs.Common.{◌≡◌, ℕ, ◌+◌, ◌-◌, ◌<◌, ◌≤◌, Bool, true, false, List, [], ◌∷◌, ◌++◌, length, take, drop, get_or, refl, sym, ◌∙◌, ap, arith, Option, Some, cond, suc, append_assoc, append-nil, add-zero, subst}
use Rattle.std.specs.Prelude.{Result, Ok, Err, slice_range, All, map}
use Rattle.std.specs.List.{prefix_len, take_while}
use Rattle.std.proofs.lemmas.List.{drop_more, drop_all, drop-drop, map-append}
use Rattle.std.proofs.lemmas.List.Elements.{All-nil, All-push, All-weaker, All-head, All-tail}
use Rattle.fc_syntax.specs.declared.token.Token.{Token}
use Rattle.fc_syntax.specs.declared.token.TokenKind.{TokenKind}
use Rattle.fc_syntax.specs.Tokens.{AreInOrder, Plain, byte_class, is_plain, ByteFault, Lexeme, then_lexemes, as_lexeme, word_lexeme, word_kind, lexeme_of, Between, InWord, lexed}
use Rattle.fc_lex.specs.declared.LexError.{LexError}
use Rattle.fc_lex.specs.declared.LexError.TheVariants as error
use Rattle.fc_lex.specs.Faults.{IsFirstFault, IsWordFault}
use Rattle.fc_lex.specs.Pieces.{then_piece}
use Rattle.fc_syntax.proofs.Lexing.{lexed_first, plain_class, class_plain, lexed_apart}

-- the rest of a word, as far as it goes
pub one_more : (n : ℕ) → 1 + n ≡ suc n
one_more n = omega arith

run_step : (t : Bool) (at b : ℕ) (bs : List ℕ) → is_plain b ≡ t → lexed InWord (at + 1) bs ≡ lexed Between (at + 1 + prefix_len is_plain bs) (drop (prefix_len is_plain bs) bs)
    → lexed InWord at (b ∷ bs) ≡ lexed Between (at + cond t (1 + prefix_len is_plain bs) 0) (drop (cond t (1 + prefix_len is_plain bs) 0) (b ∷ bs))
run_step true at b bs e h =
    let n = prefix_len is_plain bs in
    let k : at + 1 + n ≡ at + (1 + n) = omega arith in
    let d : drop n bs ≡ drop (1 + n) (b ∷ bs) = sym (ap (λ m. drop m (b ∷ bs)) (one_more n)) in
    lexed_first InWord at b bs Plain (plain_class b e) ∙ (h ∙ (ap (λ m. lexed Between m (drop n bs)) k ∙ ap (lexed Between (at + (1 + n))) d))
run_step false at b bs e h = lexed_apart at (b ∷ bs) e ∙ ap (λ m. lexed Between m (b ∷ bs)) (sym (add-zero at))

pub lexed_run : (at : ℕ) (xs : List ℕ) → lexed InWord at xs ≡ lexed Between (at + prefix_len is_plain xs) (drop (prefix_len is_plain xs) xs)
lexed_run at [] = refl
lexed_run at (b ∷ bs) = run_step (is_plain b) at b bs refl (lexed_run (at + 1) bs)

-- a word, as far as it goes
pub lexed_longest : (at b : ℕ) (bs : List ℕ) → is_plain b ≡ true
    → lexed Between at (b ∷ bs) ≡ then_lexemes (word_lexeme at (take_while is_plain (b ∷ bs))) (lexed Between (at + prefix_len is_plain (b ∷ bs)) (drop (prefix_len is_plain (b ∷ bs)) (b ∷ bs)))
lexed_longest at b bs p =
    lexed_first Between at b bs Plain (plain_class b p)
    ∙ ap (then_lexemes (word_lexeme at (take_while is_plain (b ∷ bs)))) (sym (lexed_first InWord at b bs Plain (plain_class b p)) ∙ lexed_run at (b ∷ bs))

pub word_at : (bytes : List ℕ) (at end : ℕ) → at < length bytes → byte_class (get_or bytes at 0) ≡ Plain → end ≡ at + prefix_len is_plain (drop at bytes)
    → lexed Between at (drop at bytes) ≡ then_lexemes (word_lexeme at (slice_range bytes at end)) (lexed Between end (drop end bytes))
word_at bytes at end l e h =
    let xs = drop at bytes in
    let n = prefix_len is_plain xs in
    let P : List ℕ → Type 0 = λ xs. lexed Between at xs ≡ then_lexemes (word_lexeme at (take_while is_plain xs)) (lexed Between (at + prefix_len is_plain xs) (drop (prefix_len is_plain xs) xs)) in
    let base : P xs = subst P (sym (drop_more bytes at 0 l)) (lexed_longest at (get_or bytes at 0) (drop (at + 1) bytes) (class_plain (get_or bytes at 0) e)) in
    let m : n ≡ end - at = omega arith in
    let text : take n xs ≡ slice_range bytes at end = ap (λ k. take k xs) m in
    let rest : lexed Between (at + n) (drop n xs) ≡ lexed Between end (drop end bytes) = ap (lexed Between (at + n)) (drop-drop n at bytes) ∙ ap (λ k. lexed Between k (drop k bytes)) (sym h) in
    base ∙ (ap (λ w. then_lexemes (word_lexeme at w) (lexed Between (at + n) (drop n xs))) text ∙ ap (then_lexemes (word_lexeme at (slice_range bytes at end))) rest)

-- a word that is a token
pub word_read : (bytes : List ℕ) (at end : ℕ) (k : TokenKind) → at < length bytes → byte_class (get_or bytes at 0) ≡ Plain → end ≡ at + prefix_len is_plain (drop at bytes)
    → word_kind at (slice_range bytes at end) ≡ Ok k → lexed Between at (drop at bytes) ≡ then_piece bytes at end (Some k) (lexed Between end (drop end bytes))
word_read bytes at end k l e h w =
    word_at bytes at end l e h ∙ ap (λ r. then_lexemes (as_lexeme at (slice_range bytes at end) r) (lexed Between end (drop end bytes))) w

-- a word that is none
pub word_fault : (bytes : List ℕ) (at end : ℕ) (f : LexError) → at < length bytes → byte_class (get_or bytes at 0) ≡ Plain → end ≡ at + prefix_len is_plain (drop at bytes)
    → IsWordFault (word_kind at (slice_range bytes at end)) f → IsFirstFault (lexed Between at (drop at bytes)) f
word_fault bytes at end (error.BadByte n) l e h w = word_at bytes at end l e h ∙ ap (λ r. then_lexemes (as_lexeme at (slice_range bytes at end) r) (lexed Between end (drop end bytes))) w
word_fault bytes at end (error.BadToken n) l e h w = word_at bytes at end l e h ∙ ap (λ r. then_lexemes (as_lexeme at (slice_range bytes at end) r) (lexed Between end (drop end bytes))) w
word_fault bytes at end (error.LiteralRange n) l e h w = word_at bytes at end l e h ∙ ap (λ r. then_lexemes (as_lexeme at (slice_range bytes at end) r) (lexed Between end (drop end bytes))) w
word_fault bytes at end error.Memory l e h w = absurd w

-- the tokens so far before those that follow, unless these are faulty
pub with_lexemes : List Lexeme → Result (List Lexeme) ByteFault → Result (List Lexeme) ByteFault
with_lexemes ts (Err f) = Err f
with_lexemes ts (Ok us) = Ok (ts ++ us)

with_none : (r : Result (List Lexeme) ByteFault) → with_lexemes [] r ≡ r
unfolding with_lexemes
with_none (Err f) = refl
with_none (Ok us) = refl

with_more : (ts : List Lexeme) (t : Lexeme) (r : Result (List Lexeme) ByteFault) → with_lexemes ts (then_lexemes (Ok t) r) ≡ with_lexemes (ts ++ t ∷ []) r
unfolding with_lexemes
with_more ts t (Err f) = refl
with_more ts t (Ok us) = ap Ok (sym (append_assoc ts (t ∷ []) us))

with_all : (ts : List Lexeme) → with_lexemes ts (Ok []) ≡ Ok ts
unfolding with_lexemes
with_all ts = ap Ok (append-nil ts)

with_fault : (ts : List Lexeme) (f : ByteFault) → with_lexemes ts (Err f) ≡ Err f
unfolding with_lexemes
with_fault ts f = refl

-- the tokens of src as far as a text is read
pub record IsRead (bytes : List ℕ) (all : List Token) (at : ℕ) : Type 0 where
  pub within : at ≤ length bytes
  pub same : lexed Between 0 bytes ≡ with_lexemes (map (lexeme_of bytes) all) (lexed Between at (drop at bytes))
  pub slices : All (λ t. (t.from ≤ t.to) × (t.to ≤ length bytes)) all
  pub in_order : AreInOrder all
  pub before : All (λ t. t.to ≤ at) all

read_nothing : (bytes : List ℕ) → IsRead bytes [] 0
read_nothing bytes = record {
  within = omega arith;
  same = sym (with_none (lexed Between 0 bytes));
  slices = All-nil _;
  in_order = tt;
  before = All-nil _;
}

pub read_none : (bytes : List ℕ) (all : List Token) → all ≡ [] → IsRead bytes all 0
read_none bytes all e = let P : List Token → Type 0 = λ ts. IsRead bytes ts 0 in subst P (sym e) (read_nothing bytes)

in_order_more : (all : List Token) (t : Token) → AreInOrder all → All (λ u. u.to ≤ t.from) all → AreInOrder (all ++ t ∷ [])
in_order_more [] t o b = tt
in_order_more (u ∷ []) t o b = (All-head (λ x. x.to ≤ t.from) u [] b, tt)
in_order_more (u ∷ v ∷ us) t o b = (o.0, in_order_more (v ∷ us) t o.1 (All-tail (λ x. x.to ≤ t.from) u (v ∷ us) b))

pub read_token : (bytes : List ℕ) (all : List Token) (t : Token) → IsRead bytes all t.from → t.from < t.to → t.to ≤ length bytes
    → lexed Between t.from (drop t.from bytes) ≡ then_piece bytes t.from t.to (Some t.kind) (lexed Between t.to (drop t.to bytes)) → IsRead bytes (all ++ t ∷ []) t.to
read_token bytes all t r f w e =
    let rest = lexed Between t.to (drop t.to bytes) in
    record {
      within = w;
      same = r.same ∙ (ap (with_lexemes (map (lexeme_of bytes) all)) e ∙ (with_more (map (lexeme_of bytes) all) (lexeme_of bytes t) rest ∙ ap (λ ts. with_lexemes ts rest) (sym (map-append (lexeme_of bytes) all (t ∷ [])))));
      slices = All-push (λ x. (x.from ≤ x.to) × (x.to ≤ length bytes)) all t r.slices (omega arith, w);
      in_order = in_order_more all t r.in_order r.before;
      before = All-push (λ x. x.to ≤ t.to) all t (All-weaker (λ x. x.to ≤ t.from) (λ x. x.to ≤ t.to) (λ x h. omega arith) all r.before) (omega arith);
    }

-- a token that was put at the end
pub read_pushed : (bytes : List ℕ) (all new : List Token) (at end : ℕ) (o : Option TokenKind) (k : TokenKind) → IsRead bytes all at → at < end → end ≤ length bytes
    → lexed Between at (drop at bytes) ≡ then_piece bytes at end o (lexed Between end (drop end bytes)) → o ≡ Some k → new ≡ all ++ (record { from = at; to = end; kind = k }) ∷ [] → IsRead bytes new end
read_pushed bytes all new at end o k r f w e s n =
    let P : List Token → Type 0 = λ ts. IsRead bytes ts end in
    subst P (sym n) (read_token bytes all (record { from = at; to = end; kind = k }) r f w (e ∙ ap (λ u. then_piece bytes at end u (lexed Between end (drop end bytes))) s))

pub read_all : (bytes : List ℕ) (all : List Token) (at : ℕ) → IsRead bytes all at → length bytes ≤ at → lexed Between 0 bytes ≡ Ok (map (lexeme_of bytes) all)
read_all bytes all at r h = r.same ∙ (ap (λ xs. with_lexemes (map (lexeme_of bytes) all) (lexed Between at xs)) (drop_all at bytes h) ∙ with_all (map (lexeme_of bytes) all))

pub read_fault : (bytes : List ℕ) (all : List Token) (at : ℕ) (f : LexError) → IsRead bytes all at → IsFirstFault (lexed Between at (drop at bytes)) f → IsFirstFault (lexed Between 0 bytes) f
read_fault bytes all at (error.BadByte n) r h = r.same ∙ (ap (with_lexemes (map (lexeme_of bytes) all)) h ∙ with_fault (map (lexeme_of bytes) all) _)
read_fault bytes all at (error.BadToken n) r h = r.same ∙ (ap (with_lexemes (map (lexeme_of bytes) all)) h ∙ with_fault (map (lexeme_of bytes) all) _)
read_fault bytes all at (error.LiteralRange n) r h = r.same ∙ (ap (with_lexemes (map (lexeme_of bytes) all)) h ∙ with_fault (map (lexeme_of bytes) all) _)
read_fault bytes all at error.Memory r h = tt
