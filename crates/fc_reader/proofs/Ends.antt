-- From what a reader of a file found to the faults of the file: its first fault and the byte of that.
use Rattle.std.proofs.Common.{◌≡◌, ◌≤◌, ◌<◌, ◌-◌, arith, ℕ, Bool, true, false, List, [], ◌∷◌, ◌++◌, length, map, take, drop, refl, sym, ap, ◌∙◌, subst, append_assoc}
use Rattle.std.proofs.lemmas.List.{append-nil, length-drop, length-map, length-append, map-append, take-append-drop}
use Rattle.std.proofs.Math.Seq.{drop-append_seam}
use Rattle.fc_syntax.specs.Limits.{standard_limits}
use Rattle.fc_syntax.specs.Tokens.{Lexeme}
use Rattle.fc_model.specs.Words.{Tok, Open, Close, tok_of}
use Rattle.fc_model.specs.FileForms.{FileForm, File, Member, whole_part, member_part, module_in}
use Rattle.fc_model.specs.Grammar.{gives, ◌▸◌}
use Rattle.fc_model.specs.Reading.{Reads}
use Rattle.fc_model.specs.Texts.{BeginsWith}
use Rattle.fc_model.specs.ReadFaults.{nests_within, Begins, CannotGoOn, IsBadFormAt, IsDeepBracketAt, IsMemberAt, NestsWithin, WithinSoFar, byte_of, decls_within}
use Rattle.fc_read_parts.specs.Reading.{Takes}
use Rattle.fc_read_parts.specs.declared.parts.Stop.TheVariants as stop
use Rattle.fc_read_parts.specs.Seen.{seen, seen_all}
use Rattle.fc_read_parts.specs.declared.terminal.Terminal.{Terminal}
use Rattle.fc_reader.specs.declared.limits.Halt.{Halt}
use Rattle.fc_reader.specs.declared.limits.Halt.TheVariants as halt
use Rattle.fc_reader.specs.Halting.{FirstBadWithin, Halts, PastLimit, RefusesFile}
use Rattle.fc_reader.specs.Nested.{EndsDeep, IsDeepBefore, IsPart, NestsAll}
use Rattle.fc_reader.specs.Places.{FirstBad}
use Rattle.fc_reader.proofs.Closings.{member_closed, whole_closed}
use Rattle.fc_reader.proofs.Firsts.{CannotGoOnTo, Parted, parted, parted_behind}
use Rattle.fc_reader.proofs.Fronts.{Front, begins_front, part_front}
use Rattle.fc_reader.proofs.Levels.{nests_front}
use Rattle.fc_reader.proofs.Lists.{Parts, before_last, head_same, in_parts, same_cuts, tail_same}
use Rattle.fc_reader.proofs.Steps.{taken}
use Rattle.fc_reader.proofs.Within.{begins_more, front_all, whole_all}

-- ---- the first token that cannot go on

pub first_bad : (f : FileForm) (ts : List Tok) (n : ℕ) → Parted (whole_part f ▸ λ m. gives m) ts n → FirstBad f ts n
first_bad f ts n p = record { good = p.good; bad = p.bad; parts = p.parts; left = p.left; begins = (p.goes_on.0, (p.goes_on.1, p.goes_on.2)); stops = never p.good p.bad p.stops } where
  never : (good bad : List Tok) → CannotGoOnTo (whole_part f ▸ λ m. gives m) good bad → CannotGoOn f good bad
  never good [] h = λ d. h d.0 d.1
  never good (t ∷ bad) h = λ d. h d.0 d.1.0 (subst (λ x. Reads (whole_part f) x d.1.0 []) (append_assoc good (t ∷ []) d.0) d.1.1)

pub refused : (f : FileForm) (room : ℕ) (ts : List Tok) (h : Halt) → Halts f room (BeginsWith f) (whole_part f) ts h → RefusesFile f room ts h
refused f room ts (halt.Stop stop.Memory) h = tt
refused f room ts (halt.Stop (stop.Form n)) h = record { bad = first_bad f ts n (parted ts (whole_part f ▸ λ m. gives m) n (h.stops (whole_part f) (λ m. gives m))); within = h.within }
refused f room ts (halt.Depth n) h = h
refused f room ts (halt.Counts n) h = h

pub refused_behind : (f : FileForm) (room : ℕ) {m : File f} {ts : List Tok} {n : ℕ} (us : List Tok) → Takes (whole_part f) ts m us → n ≡ length us → 0 < n → decls_within room (module_in f m) ≡ true
    → FirstBadWithin f room ts n
refused_behind f room [] d e h w = absurd (omega (arith, e, h))
refused_behind f room {m = m} {ts = ts} (t ∷ us) d e h w = record {
  bad = subst (FirstBad f ts) (sym e) (first_bad f ts (length (t ∷ us)) (parted_behind ts (whole_part f ▸ λ x. gives x) m t us (taken (whole_part f) ts d)));
  within = whole_all f room (taken (whole_part f) ts d) w;
}

pub whole : (f : FileForm) {m : File f} (ts us : List Tok) → Takes (whole_part f) ts m us → length us ≤ 0 → Reads (whole_part f) ts m []
whole f ts [] d h = taken (whole_part f) ts d
whole f ts (t ∷ us) d h = absurd (omega (arith, h))

-- ---- the tokens up to a bracket that nests too deep

last_same : (xs ys : List Tok) → xs ++ Close ∷ [] ≡ ys ++ Open ∷ [] → ⊥
last_same [] [] e = cc
last_same [] (y ∷ []) e = cc
last_same [] (y ∷ z ∷ ys) e = cc
last_same (x ∷ []) [] e = cc
last_same (x ∷ z ∷ xs) [] e = cc
last_same (x ∷ xs) (y ∷ ys) e = last_same xs ys (tail_same e)

deep_part : (all part : List Tok) (n : ℕ) → IsDeepBefore all n → (behind : List Tok) → all ≡ part ++ behind → length behind ≡ n → EndsDeep all part
deep_part all part n p behind e left =
    let c = same_cuts part behind (p.good ++ Open ∷ []) p.bad (sym e ∙ p.parts ∙ sym (append_assoc p.good (Open ∷ []) p.bad)) (left ∙ sym p.left) in
    record { behind = behind; good = p.good; parts = e; is = c.fronts; nested = p.nested; deep = p.deep }

pub deep_terminals : (all : List Terminal) (n : ℕ) → IsDeepBefore (seen_all all) n → n < length all → EndsDeep (seen_all all) (seen_all (take (length all - n) all))
deep_terminals all n p h =
    let k = length all - n in
    let parts : seen_all all ≡ seen_all (take k all) ++ seen_all (drop k all) = ap seen_all (sym (take-append-drop k all)) ∙ map-append seen (take k all) (drop k all) in
    deep_part (seen_all all) (seen_all (take k all)) n p (seen_all (drop k all)) parts (omega (arith, length-map (drop k all) seen, length-drop k all, h))

-- what stands before the end of the part that is read nests within the limit
part_nested : (all part : List Tok) (deep : Bool) (front : List Tok) (t : Tok) (back : List Tok) → IsPart all part deep → part ≡ front ++ t ∷ back → NestsWithin front
part_nested all part true front t back p e =
    let q = before_last p.good Open front t back (sym p.is ∙ e) in
    nests_front standard_limits.brackets 0 front q.more (ap (nests_within standard_limits.brackets 0) (sym q.is) ∙ p.nested)
part_nested all part false front t back p e = nests_front standard_limits.brackets 0 front (t ∷ back) (ap (nests_within standard_limits.brackets 0) (sym e ∙ p.whole) ∙ p.nested)

all_nested : (all part front back : List Tok) → NestsAll all part → part ≡ front ++ back → NestsWithin front
all_nested all part front back p e = nests_front standard_limits.brackets 0 front back (ap (nests_within standard_limits.brackets 0) (sym e ∙ p.whole) ∙ p.nested)

pub record Behind (all part : List Tok) : Type 0 where
  pub others : List Tok
  pub is : all ≡ part ++ others

pub behind_part : (all part : List Tok) (deep : Bool) → IsPart all part deep → Behind all part
behind_part all part true p = record { others = p.behind; is = p.parts }
behind_part all part false p = record { others = []; is = sym (append-nil part ∙ p.whole) }

-- the tokens from one of the part on
drop_to : (lexemes good bad : List Lexeme) (part front back : List Tok) (n : ℕ) → lexemes ≡ good ++ bad → map tok_of good ≡ front → part ≡ front ++ back → length back ≡ n
    → drop (length part - n) lexemes ≡ bad
drop_to lexemes good bad part front back n e g h left =
    let len : length part - n ≡ length good = omega (arith, ap length h, length-append front back, left, ap length g, length-map good tok_of) in
    ap (λ k. drop k lexemes) len ∙ ap (drop (length good)) e ∙ drop-append_seam good bad

-- ---- the faults of the part that is read are those of all

-- the part is cut at the first token that cannot go on, and what is behind the part
stops_longer : (f : FileForm) (all part : List Tok) (deep : Bool) (n : ℕ) (good bad others : List Tok) → IsPart all part deep → (deep ≡ true → n ≡ 0 → ⊥) → all ≡ part ++ others → part ≡ good ++ bad → length bad ≡ n
    → CannotGoOn f good bad → CannotGoOn f good (bad ++ others) × NestsWithin good
stops_longer f all part true n good [] others p h e parts left stops = absurd (h refl (sym left))
stops_longer f all part false n good [] [] p h e parts left stops = (stops, all_nested all part good [] p parts)
stops_longer f all part false n good [] (t ∷ others) p h e parts left stops = absurd (omega (arith, ap length e, ap length p.whole, length-append part (t ∷ others)))
stops_longer f all part deep n good (b ∷ bad) others p h e parts left stops = (stops, part_nested all part deep good b bad p parts)

pub bad_form : {f : FileForm} {room : ℕ} (bytes : List ℕ) (lexemes : List Lexeme) (part : List Tok) (deep : Bool) (n : ℕ) → IsPart (map tok_of lexemes) part deep → (deep ≡ true → n ≡ 0 → ⊥)
    → FirstBadWithin f room part n → IsBadFormAt f room bytes lexemes (byte_of bytes (drop (length part - n) lexemes))
bad_form {f = f} {room = room} bytes lexemes part deep n p h w =
    let all = map tok_of lexemes in
    let k = behind_part all part deep p in
    let b = w.bad in
    let q = in_parts tok_of lexemes b.good (b.bad ++ k.others) (k.is ∙ ap (λ x. x ++ k.others) b.parts ∙ append_assoc b.good b.bad k.others) in
    let s = stops_longer f all part deep n b.good b.bad k.others p h k.is b.parts b.left b.stops in
    record {
      good = q.good;
      bad = q.bad;
      parts = q.parts;
      begins = subst (Begins f) (sym q.is_good) b.begins;
      stops = subst (λ x. CannotGoOn f x (map tok_of q.bad)) (sym q.is_good) (subst (CannotGoOn f b.good) (sym q.is_bad) s.0);
      nested = subst NestsWithin (sym q.is_good) s.1;
      within = subst (WithinSoFar f room) (sym q.is_good) (front_all f room b.good b.bad (subst (WithinSoFar f room) b.parts w.within));
      place = ap (byte_of bytes) (drop_to lexemes q.good q.bad part b.good b.bad n q.parts q.is_good b.parts b.left);
    }

-- the first of lexemes of which the first token is known
record First (lexemes : List Lexeme) (t : Tok) (ts : List Tok) : Type 0 where
  lexeme : Lexeme
  others : List Lexeme
  parts : lexemes ≡ lexeme ∷ others
  is : tok_of lexeme ≡ t

first_lexeme : (lexemes : List Lexeme) (t : Tok) (ts : List Tok) → map tok_of lexemes ≡ t ∷ ts → First lexemes t ts
first_lexeme [] t ts e = absurd cc
first_lexeme (l ∷ ls) t ts e = record { lexeme = l; others = ls; parts = refl; is = head_same e }

-- the bracket that nests too deep may stand where it does
pub deep_bracket : {f : FileForm} {room : ℕ} (bytes : List ℕ) (lexemes : List Lexeme) (part : List Tok) → EndsDeep (map tok_of lexemes) part → FirstBadWithin f room part 0
    → IsDeepBracketAt f room lexemes (byte_of bytes (drop (length part - 1) lexemes))
deep_bracket {f = f} {room = room} bytes lexemes part p w =
    let q = in_parts tok_of lexemes p.good (Open ∷ p.behind) (p.parts ∙ ap (λ x. x ++ p.behind) p.is ∙ append_assoc p.good (Open ∷ []) p.behind) in
    let o = first_lexeme q.bad Open p.behind q.is_bad in
    let begins = all_begin w.bad.good w.bad.bad w.bad.parts w.bad.left w.bad.begins in
    record {
      good = q.good;
      bracket = o.lexeme;
      bad = o.others;
      parts = q.parts ∙ ap (λ x. q.good ++ x) o.parts;
      opens = o.is;
      begins = subst (λ x. Begins f (x ++ Open ∷ [])) (sym q.is_good) (subst (Begins f) p.is begins);
      nested = subst NestsWithin (sym q.is_good) p.nested;
      deep = ap (λ x. nests_within standard_limits.brackets 0 (x ++ Open ∷ [])) q.is_good ∙ p.deep;
      within = subst (WithinSoFar f room) (sym q.is_good) (front_all f room p.good (Open ∷ []) (subst (WithinSoFar f room) p.is w.within));
      place = ap (byte_of bytes) (drop_to lexemes q.good q.bad part p.good (Open ∷ []) 1 q.parts q.is_good p.is refl ∙ o.parts);
    } where
      all_begin : (good bad : List Tok) → part ≡ good ++ bad → length bad ≡ 0 → Begins f good → Begins f part
      all_begin good [] e h b = subst (Begins f) (sym (e ∙ append-nil good)) b
      all_begin good (t ∷ bad) e h b = absurd (omega (arith, h))

-- ---- a member that stands whole in the part

-- where a member ends the part, the part ends with a closing bracket, so that nothing nests too deep
member_nested : (f : FileForm) (all part : List Tok) (deep : Bool) (front own rest : List Tok) (x : Member f) → IsPart all part deep → part ≡ front ++ (own ++ rest)
    → Reads (member_part f) (own ++ rest) x rest → NestsWithin (front ++ own)
member_nested f all part true front own [] x p e a =
    let c = member_closed f a in
    absurd (last_same (front ++ c.front) p.good (append_assoc front c.front (Close ∷ []) ∙ sym (ap (λ y. front ++ y) c.parts) ∙ sym e ∙ p.is))
member_nested f all part false front own [] x p e a = all_nested all part (front ++ own) [] p (e ∙ sym (append_assoc front own []))
member_nested f all part deep front own (t ∷ rest) x p e a = part_nested all part deep (front ++ own) t rest p (e ∙ sym (append_assoc front own (t ∷ rest)))

-- the first byte of a member is that of its first token, whatever follows it
pub first_byte : (f : FileForm) (bytes : List ℕ) (own others : List Lexeme) (rest : List Tok) (x : Member f) → Reads (member_part f) (map tok_of own) x rest → byte_of bytes (own ++ others) ≡ byte_of bytes own
first_byte f bytes [] others rest x a = absurd cc
first_byte f bytes (t ∷ own) others rest x a = refl

pub member_at : {f : FileForm} {room : ℕ} {Is : List (Member f) → Member f → Type 0} (bytes : List ℕ) (lexemes : List Lexeme) (part : List Tok) (deep : Bool) (n : ℕ) → IsPart (map tok_of lexemes) part deep
    → (h : PastLimit f room (BeginsWith f) Is part n) → IsMemberAt f room bytes lexemes h.before h.member (byte_of bytes (drop (length part - n) lexemes))
member_at {f = f} {room = room} bytes lexemes part deep n p h = behind (behind_part (map tok_of lexemes) part deep p) (begins_front h.start) (part_front (member_part f) h.from h.own) where
  made : (k : Behind (map tok_of lexemes) part) (b : Front (λ x y. BeginsWith f x h.before y) part h.from) (o : Front (λ x y. Reads (member_part f) x h.member y) h.from h.rest)
      (q : Parts tok_of lexemes b.front (h.from ++ k.others)) (r : Parts tok_of q.bad o.front (h.rest ++ k.others)) → Reads (member_part f) o.front h.member []
      → map tok_of q.good ++ map tok_of r.good ≡ b.front ++ o.front → Reads (member_part f) (map tok_of r.good) h.member []
      → IsMemberAt f room bytes lexemes h.before h.member (byte_of bytes (drop (length part - n) lexemes))
  made k b o q r own both mine = record {
    good = q.good;
    own = r.good;
    others = r.bad;
    parts = q.parts ∙ ap (λ x. q.good ++ x) r.parts;
    start = subst (λ x. BeginsWith f x h.before []) (append-nil b.front ∙ sym q.is_good) (b.reads []);
    own_reads = mine;
    whole = subst (λ x. BeginsWith f x (h.before ++ h.member ∷ []) []) (sym both) (begins_more (b.reads o.front) own);
    nested = subst NestsWithin (sym both)
        (member_nested f (map tok_of lexemes) part deep b.front o.front h.rest h.member p (b.parts ∙ ap (λ x. b.front ++ x) o.parts) (subst (λ x. Reads (member_part f) x h.member h.rest) o.parts h.own));
    within = h.within;
    place = ap (byte_of bytes) (drop_to lexemes q.good q.bad part b.front h.from n q.parts q.is_good b.parts h.left ∙ r.parts) ∙ first_byte f bytes r.good r.bad [] h.member mine;
  }

  own_parts : (k : Behind (map tok_of lexemes) part) (b : Front (λ x y. BeginsWith f x h.before y) part h.from) (o : Front (λ x y. Reads (member_part f) x h.member y) h.from h.rest)
      (q : Parts tok_of lexemes b.front (h.from ++ k.others)) (r : Parts tok_of q.bad o.front (h.rest ++ k.others)) → IsMemberAt f room bytes lexemes h.before h.member (byte_of bytes (drop (length part - n) lexemes))
  own_parts k b o q r =
      let own : Reads (member_part f) o.front h.member [] = subst (λ x. Reads (member_part f) x h.member []) (append-nil o.front) (o.reads []) in
      made k b o q r own (ap (λ x. x ++ map tok_of r.good) q.is_good ∙ ap (λ x. b.front ++ x) r.is_good) (subst (λ x. Reads (member_part f) x h.member []) (sym r.is_good) own)

  front : (k : Behind (map tok_of lexemes) part) (b : Front (λ x y. BeginsWith f x h.before y) part h.from) (o : Front (λ x y. Reads (member_part f) x h.member y) h.from h.rest)
      (q : Parts tok_of lexemes b.front (h.from ++ k.others)) → IsMemberAt f room bytes lexemes h.before h.member (byte_of bytes (drop (length part - n) lexemes))
  front k b o q = own_parts k b o q (in_parts tok_of q.bad o.front (h.rest ++ k.others) (q.is_bad ∙ ap (λ x. x ++ k.others) o.parts ∙ append_assoc o.front h.rest k.others))

  behind : (k : Behind (map tok_of lexemes) part) (b : Front (λ x y. BeginsWith f x h.before y) part h.from) (o : Front (λ x y. Reads (member_part f) x h.member y) h.from h.rest)
      → IsMemberAt f room bytes lexemes h.before h.member (byte_of bytes (drop (length part - n) lexemes))
  behind k b o = front k b o (in_parts tok_of lexemes b.front (h.from ++ k.others) (k.is ∙ ap (λ x. x ++ k.others) b.parts ∙ append_assoc b.front h.from k.others))

-- a part that is read whole is all of the tokens
pub part_is_all : (f : FileForm) {m : File f} (all part : List Tok) (deep : Bool) → IsPart all part deep → Reads (whole_part f) part m [] → NestsAll all part
part_is_all f all part true p d = let c = whole_closed f d in absurd (last_same c.front p.good (sym c.parts ∙ p.is))
part_is_all f all part false p d = p
