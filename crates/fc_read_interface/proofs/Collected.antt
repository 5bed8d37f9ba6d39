-- What items make, item by item.
use Rattle.std.proofs.Common.{◌≡◌, ◌≤◌, ◌<◌, ◌+◌, ◌&&◌, nat_le, ℕ, true, false, List, [], ◌∷◌, ◌++◌, arith, length, map, Option, refl, sym, ap, ◌∙◌, subst}
use Rattle.std.proofs.lemmas.List.{map-append}
use Rattle.fc_syntax.specs.Measures.{decl_size, decls_size}
use Rattle.fc_syntax.specs.Tree.{Word}
use Rattle.fc_syntax.specs.View.{decl_of, decls_of}
use Rattle.fc_syntax.specs.declared.module.Decl as D
use Rattle.fc_syntax.specs.declared.ty.Name.{Name}
use Rattle.fc_model.specs.FileForms.{InterfaceFile}
use Rattle.fc_model.specs.Grammar.{AnItem, Item, ItemDecl, ItemValue, Many, item_decl, item_sigs, items_told, is_told}
use Rattle.fc_model.specs.ReadFaults.{are_within, counts_fit, depth_fits}
use Rattle.fc_model.specs.Texts.{SomeMembersAt}
use Rattle.fc_model.specs.Words.{Tok}
use Rattle.fc_lattice.specs.View.{sigs_of}
use Rattle.fc_read_items.specs.View.{item_of}
use Rattle.fc_read_items.specs.declared.items.Item as RustItem
use Rattle.fc_read_parts.specs.Reading.{GoesOn, StopsAt, Takes}
use Rattle.fc_read_parts.specs.declared.parts.Stop.{Stop}
use Rattle.fc_read_parts.proofs.Stars.{Star, many_at, many_start, star_more}
use Rattle.fc_reader.specs.Halting.{HaltsAt, IsDeep, IsMuch, PastLimit}
use Rattle.fc_reader.proofs.Halts.{member_deep, member_much, member_stops, more_are_within, more_read, more_size, none_read, none_size, none_within}
use Rattle.fc_read_interface.specs.Made.{AreOf, IsDeclared, known_sigs, known_told}
use Rattle.fc_read_interface.specs.declared.items.Items as I
use Rattle.fc_read_interface.specs.declared.items.Known as K

-- ---- one item more

sigs_last : (xs : List Item) (x : Item) → item_sigs (xs ++ x ∷ []) ≡ item_sigs xs ++ item_sigs (x ∷ [])
sigs_last [] x = refl
sigs_last (ItemDecl d ∷ xs) x = sigs_last xs x
sigs_last (ItemValue n t sig u ∷ xs) x = ap (λ more. sig ∷ more) (sigs_last xs x)

told_last : (xs : List Item) (x : Item) → items_told (xs ++ x ∷ []) ≡ items_told xs ++ items_told (x ∷ [])
told_last [] x = refl
told_last (ItemDecl d ∷ xs) x = told_last xs x
told_last (ItemValue n t sig u ∷ xs) x = ap (λ more. is_told u ∷ more) (told_last xs x)

-- the parts of one item were put behind the others
pub record Adds (old new : I.Items) (d : D.Decl Word Name) (known : Option K.Known) : Type 0 where
  pub decls : decls_of new.decls ≡ decls_of old.decls ++ decl_of d ∷ []
  pub sigs : sigs_of new.sigs ≡ sigs_of old.sigs ++ known_sigs known
  pub told : new.told ≡ old.told ++ known_told known

are_more : (xs : List Item) (x : Item) (old new : I.Items) (d : D.Decl Word Name) (known : Option K.Known) → AreOf xs old → IsDeclared x d known → Adds old new d known → AreOf (xs ++ x ∷ []) new
are_more xs x old new d known h k a = record {
  decls = a.decls ∙ (λ i. h.decls i ++ k.decl i ∷ []) ∙ sym (map-append item_decl xs (x ∷ []));
  sigs = a.sigs ∙ (λ i. h.sigs i ++ k.sigs i) ∙ sym (sigs_last xs x);
  told = a.told ∙ (λ i. h.told i ++ k.told i) ∙ sym (told_last xs x);
}

-- ---- the loop

-- What it keeps: the items that were read, which are all within the limits, what they make, and how large their declarations are together.
pub record Collected (room : ℕ) (ts : List Tok) (made : I.Items) (size : ℕ) (us : List Tok) : Type 0 where
  pub items : List RustItem.Item
  pub star : Star AnItem (many_at AnItem ts) ts (map item_of items) us
  pub read : SomeMembersAt InterfaceFile ts (map item_of items) us
  pub within : are_within room (map item_decl (map item_of items)) ≡ true
  pub size_is : size ≡ decls_size (map item_decl (map item_of items))
  pub small : size ≤ room
  pub are : AreOf (map item_of items) made

pub collected_none : (room : ℕ) (ts : List Tok) (made : I.Items) → AreOf [] made → Collected room ts made 0 ts
collected_none room ts made h = record {
  items = [];
  star = many_start AnItem ts [] refl;
  read = none_read InterfaceFile refl;
  within = none_within InterfaceFile room refl;
  size_is = none_size InterfaceFile refl;
  small = omega arith;
  are = h;
}

-- a declaration fits behind others of a size, and this is the size of all with it
abbrev pub FitsBehind : (room size : ℕ) (d : D.Decl Word Name) (n : ℕ) → Type 0
FitsBehind room size d n = (depth_fits (decl_of d) ≡ true) × ((counts_fit (decl_of d) ≡ true) × ((n ≡ size + decl_size (decl_of d)) × (n ≤ room)))

pub collected_more : (room : ℕ) (ts us ws vs : List Tok) (old new : I.Items) (size n : ℕ) (x : RustItem.Item) (d : D.Decl Word Name) (known : Option K.Known) → Collected room ts old size us
    → GoesOn us × (ws ≡ us) → Takes AnItem ws (item_of x) vs → length vs < length ws → IsDeclared (item_of x) d known → FitsBehind room size d n → Adds old new d known → Collected room ts new n vs
collected_more room ts us ws vs old new size n x d known h on a shorter k fits adds =
    let items = h.items ++ x ∷ [] in
    let i = item_of x in
    let fits_so : (depth_fits (item_decl i) ≡ true) × ((counts_fit (item_decl i) ≡ true) × ((n ≡ size + decl_size (item_decl i)) × (n ≤ room))) =
    (ap depth_fits (sym k.decl) ∙ fits.0, (ap counts_fit (sym k.decl) ∙ fits.1.0, (fits.1.1.0 ∙ ap (λ e. size + decl_size e) k.decl, fits.1.1.1))) in
    record {
      items = items;
      star = star_more AnItem (many_at AnItem ts) item_of ts us ws vs h.items items x h.star on a shorter refl;
      read = more_read InterfaceFile item_of h.items items x refl h.read on a;
      within = more_are_within InterfaceFile room item_of h.items items x size n refl h.within h.size_is fits_so;
      size_is = more_size InterfaceFile item_of h.items items x size n refl h.size_is fits_so.1.1.0;
      small = fits.1.1.1;
      are = subst (λ ys. AreOf ys new) (sym (map-append item_of h.items (x ∷ []))) (are_more (map item_of h.items) i old new d known h.are k adds);
    }

-- ---- how it halts

pub collected_stops : (room : ℕ) (ts us ws : List Tok) (made : I.Items) (size : ℕ) (s : Stop) → Collected room ts made size us → GoesOn us × (ws ≡ us) → StopsAt AnItem ws s
    → HaltsAt InterfaceFile room (SomeMembersAt InterfaceFile) (Many AnItem) ts s
collected_stops room ts us ws made size s h on d = member_stops InterfaceFile room s h.read h.within h.star on d

pub collected_deep : (room : ℕ) (ts us ws vs : List Tok) (made : I.Items) (size : ℕ) (n : ℕ) (x : RustItem.Item) (d : D.Decl Word Name) (known : Option K.Known) → Collected room ts made size us
    → GoesOn us × (ws ≡ us) → Takes AnItem ws (item_of x) vs → n ≡ length ws → IsDeclared (item_of x) d known → depth_fits (decl_of d) ≡ false
    → PastLimit InterfaceFile room (SomeMembersAt InterfaceFile) (IsDeep InterfaceFile) ts n
collected_deep room ts us ws vs made size n x d known h on a left k past = member_deep InterfaceFile room h.read h.within on a left (ap depth_fits (sym k.decl) ∙ past)

-- a declaration that is too deep to be made
pub collected_deeper : (room : ℕ) (ts us ws vs : List Tok) (made : I.Items) (size : ℕ) (n : ℕ) (x : RustItem.Item) → Collected room ts made size us
    → GoesOn us × (ws ≡ us) → Takes AnItem ws (item_of x) vs → n ≡ length ws → depth_fits (item_decl (item_of x)) ≡ false
    → PastLimit InterfaceFile room (SomeMembersAt InterfaceFile) (IsDeep InterfaceFile) ts n
collected_deeper room ts us ws vs made size n x h on a left past = member_deep InterfaceFile room h.read h.within on a left past

pub collected_much : (room : ℕ) (ts us ws vs : List Tok) (made : I.Items) (size : ℕ) (n : ℕ) (x : RustItem.Item) (d : D.Decl Word Name) (known : Option K.Known) → Collected room ts made size us
    → GoesOn us × (ws ≡ us) → Takes AnItem ws (item_of x) vs → n ≡ length ws → IsDeclared (item_of x) d known
    → (depth_fits (decl_of d) ≡ true) × ((counts_fit (decl_of d) && nat_le (size + decl_size (decl_of d)) room) ≡ false)
    → PastLimit InterfaceFile room (SomeMembersAt InterfaceFile) (IsMuch InterfaceFile room) ts n
collected_much room ts us ws vs made size n x d known h on a left k past =
    member_much InterfaceFile room size h.read h.within on a left h.size_is
    (ap depth_fits (sym k.decl) ∙ past.0, ap (λ e. counts_fit e && nat_le (size + decl_size e) room) (sym k.decl) ∙ past.1)
