-- The fields that the code holds are those of the definition.
use Rattle.model.proofs.Base.{ℕ, ◌≡◌, refl, Bool, true, false, [], ◌∷◌}
use Rattle.std.specs.Prelude.{None, Some}
use Rattle.model.specs.Bytes.{bytes}
use Rattle.model.specs.JournalPage.{head_fields, kept_or_left, transaction_fields, end_fields, refusal_fields}
use Rattle.model.specs.declared.Shape.{Shape}
use Rattle.model.specs.declared.Committed.{Committed}
use Rattle.journal_page.specs.declared.line.Field.{Field}
use Rattle.journal_page.specs.declared.line.Shown.TheVariants.{Number, Word}
use Rattle.journal_page.specs.Fields.{new_field, field_in, fields_in, letters_of, with_number}

pub none_is : fields_in (None ∷ None ∷ None ∷ None ∷ None ∷ None ∷ []) ≡ []
unfolding fields_in
none_is = refl

pub head_is : (s : Shape) (a b c : Field) → a ≡ new_field 1 2 (Number s.cores) → b ≡ new_field 4 2 (Number s.blocks) → c ≡ new_field 7 2 (Number s.journal)
    → fields_in (Some a ∷ Some b ∷ Some c ∷ None ∷ None ∷ None ∷ []) ≡ head_fields s
unfolding fields_in field_in head_fields
head_is s a b c p q r = rw (p, q, r)

pub refusal_is : (n : ℕ) (a : Field) → a ≡ new_field 1 2 (Number n) → fields_in (Some a ∷ None ∷ None ∷ None ∷ None ∷ None ∷ []) ≡ refusal_fields n
unfolding fields_in field_in refusal_fields
refusal_is n a p = rw p

pub end_is : (core end : ℕ) (a b : Field) → a ≡ new_field 1 2 (Number core) → b ≡ new_field 4 2 (Number end)
    → fields_in (Some a ∷ Some b ∷ None ∷ None ∷ None ∷ None ∷ []) ≡ end_fields core end
unfolding fields_in field_in end_fields
end_is core end a b p q = rw (p, q)

letters : (kept : Bool) → bytes 4 (letters_of kept) ≡ kept_or_left kept
unfolding bytes kept_or_left
letters true = refl
letters false = refl

pub transaction_is : (t : Committed) (number named : ℕ) (kept : Bool) (a b c d e f : Field)
    → a ≡ new_field 1 2 (Number t.core) → b ≡ new_field 4 10 (Number number) → c ≡ new_field 15 20 (Number t.stamp)
    → d ≡ new_field 36 2 (Number t.count) → e ≡ new_field 39 2 (Number named) → f ≡ new_field 42 4 (Word (letters_of kept))
    → fields_in (Some a ∷ Some b ∷ Some c ∷ Some d ∷ Some e ∷ Some f ∷ []) ≡ transaction_fields kept named (with_number number t)
unfolding fields_in field_in transaction_fields
transaction_is t number named kept a b c d e f p q r x y z = rw (p, q, r, x, y, z, letters kept)
