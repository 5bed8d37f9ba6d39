-- A text whose members are within the limits is a whole file within them, or there is a first token that cannot go on.
use Rattle.std.proofs.Common.{◌≡◌, ℕ, suc, true, List, [], ◌∷◌, length, refl, sym, ap, ◌∙◌, subst}
use Rattle.fc_model.specs.Words.{Tok, Close}
use Rattle.fc_model.specs.FileForms.{FileForm, File, FileHeader, FileBody, whole_part, header_part, file_from, module_in}
use Rattle.fc_model.specs.Grammar.{gives, ◌▸◌}
use Rattle.fc_model.specs.Reading.{Outcome, Got, Stuck, read_part, Reads}
use Rattle.fc_model.specs.Texts.{SomeBodyAt, some_hidden, some_plain, begins_with}
use Rattle.fc_model.specs.ReadFaults.{decls_within, WithinSoFar}
use Rattle.fc_reader.specs.Halting.{FirstBadWithin}
use Rattle.fc_reader.proofs.Bodies.{BodyParts, with_hidden, without, body_parts, whole_parts}
use Rattle.fc_reader.proofs.Ends.{first_bad}
use Rattle.fc_reader.proofs.Firsts.{parted, parted_behind}
use Rattle.fc_reader.proofs.Forms.{decls_of_file}
use Rattle.fc_reader.proofs.Within.{some_of}

-- the members of a whole file stand whole in it, so it is within the limits
whole_within : (f : FileForm) (room : ℕ) (ts : List Tok) (m : File f) → Reads (whole_part f) ts m [] → WithinSoFar f room ts → decls_within room (module_in f m) ≡ true
whole_within f room ts m d k =
    let p = whole_parts f ts m [] d in
    ap (λ y. decls_within room (module_in f y)) p.is ∙ by p.header p.body p.behind p.first (body_parts f p.behind p.body [] p.others) where
      by : (h : FileHeader f) (b : FileBody f) (us : List Tok) → Reads (header_part f) ts h us → BodyParts f us b [] → decls_within room (module_in f (file_from f h b)) ≡ true
      by h b us a (with_hidden vs ws ns xs e n r is) =
          ap (λ y. decls_within room (module_in f (file_from f h y))) is ∙ decls_of_file f room h ns xs
          ∙ k xs (Close ∷ []) (begins_with a (subst (λ y. SomeBodyAt f y xs (Close ∷ [])) (sym e) (some_hidden n (some_of f xs ws [] r))))
      by h b us a (without xs e r is) =
          ap (λ y. decls_within room (module_in f (file_from f h y))) is ∙ decls_of_file f room h [] xs ∙ k xs (Close ∷ []) (begins_with a (some_plain (some_of f xs us [] r)))

-- how a text ends whose members are within the limits
pub data Ended (f : FileForm) (room : ℕ) (ts : List Tok) : Type 0 where
  ends_whole : (m : File f) → Reads (whole_part f) ts m [] → decls_within room (module_in f m) ≡ true → Ended f room ts
  ends_badly : (n : ℕ) → FirstBadWithin f room ts n → Ended f room ts

pub ended : (f : FileForm) (room : ℕ) (ts : List Tok) → WithinSoFar f room ts → Ended f room ts
ended f room ts w = by (read_part (whole_part f) ts) refl where
  by : (o : Outcome (File f)) → read_part (whole_part f) ts ≡ o → Ended f room ts
  by (Got m []) e = ends_whole m e (whole_within f room ts m e w)
  by (Got m (t ∷ us)) e = ends_badly (suc (length us)) (record { bad = first_bad f ts (suc (length us)) (parted_behind ts (whole_part f ▸ λ x. gives x) m t us e); within = w })
  by (Stuck n) e = ends_badly n (record { bad = first_bad f ts n (parted ts (whole_part f ▸ λ x. gives x) n e); within = w })
