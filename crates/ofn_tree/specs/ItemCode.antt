-- A code of items, by which a proof tells two of them apart.
use Rattle.std.specs.Prelude.{◌≡◌, ℕ, zero, suc, List, [], ◌∷◌, Some, None, refl}
use Rattle.std.proofs.Common.{ap}
use Rattle.std.specs.Coded.{Coded, code_by}
use base.Stored.{Gv, gnil, gnum, gcons}
use denote.Struct.Codes.{itself}
use Rattle.ofn_tree.specs.declared.token.Kind.{Kind}
use Rattle.ofn_tree.specs.declared.token.Kind.TheVariants.{OpenBracket, CloseBracket, Equals, Iri, String, Tag, Carets}
use Rattle.ofn_tree.specs.declared.token.Kind.TheVariants.{Name}
use Rattle.ofn_tree.specs.Items.{Item, name_item, iri_item, literal_item, sign_item, group_item, Items, no_items, item}

abbrev text_code : List ℕ → Gv
text_code [] = gnil
text_code (b ∷ bs) = gcons (gnum b) (text_code bs)

abbrev text_from : Gv → List ℕ
text_from gnil = []
text_from (gnum n) = []
text_from (gcons (gnum b) g) = b ∷ text_from g
text_from (gcons h g) = []

text_back : (bs : List ℕ) → text_from (text_code bs) ≡ bs
text_back [] = refl
text_back (b ∷ bs) = ap (λ l. b ∷ l) (text_back bs)

abbrev kind_number : Kind → ℕ
kind_number OpenBracket = 0
kind_number CloseBracket = 1
kind_number Equals = 2
kind_number Iri = 3
kind_number String = 4
kind_number Tag = 5
kind_number Carets = 6
kind_number Name = 7

abbrev kind_from : ℕ → Kind
kind_from zero = OpenBracket
kind_from (suc zero) = CloseBracket
kind_from (suc (suc zero)) = Equals
kind_from (suc (suc (suc zero))) = Iri
kind_from (suc (suc (suc (suc zero)))) = String
kind_from (suc (suc (suc (suc (suc zero))))) = Tag
kind_from (suc (suc (suc (suc (suc (suc zero)))))) = Carets
kind_from (suc (suc (suc (suc (suc (suc (suc n))))))) = Name

kind_back : (k : Kind) → kind_from (kind_number k) ≡ k
kind_back OpenBracket = refl
kind_back CloseBracket = refl
kind_back Equals = refl
kind_back Iri = refl
kind_back String = refl
kind_back Tag = refl
kind_back Carets = refl
kind_back Name = refl

abbrev mutual
  encode : Item → Gv
  encode (name_item w l) = gcons (gnum 0) (gcons (gnum l) (text_code w))
  encode (iri_item w l) = gcons (gnum 1) (gcons (gnum l) (text_code w))
  encode (literal_item l) = gcons (gnum 2) (gcons (gnum l) gnil)
  encode (sign_item k l) = gcons (gnum 3) (gcons (gnum l) (gnum (kind_number k)))
  encode (group_item None is l) = gcons (gnum 4) (gcons (gnum l) (encode_all is))
  encode (group_item (Some w) is l) = gcons (gnum 5) (gcons (gnum l) (gcons (text_code w) (encode_all is)))

  encode_all : Items → Gv
  encode_all no_items = gnil
  encode_all (item i is) = gcons (encode i) (encode_all is)

abbrev sign_from : Gv → ℕ → Item
sign_from gnil l = literal_item l
sign_from (gnum k) l = sign_item (kind_from k) l
sign_from (gcons h g) l = literal_item l

abbrev mutual
  decode : Gv → Item
  decode gnil = literal_item 0
  decode (gnum n) = literal_item 0
  decode (gcons (gnum zero) (gcons (gnum l) g)) = name_item (text_from g) l
  decode (gcons (gnum (suc zero)) (gcons (gnum l) g)) = iri_item (text_from g) l
  decode (gcons (gnum (suc (suc zero))) (gcons (gnum l) g)) = literal_item l
  decode (gcons (gnum (suc (suc (suc zero)))) (gcons (gnum l) g)) = sign_from g l
  decode (gcons (gnum (suc (suc (suc (suc zero))))) (gcons (gnum l) g)) = group_item None (decode_all g) l
  decode (gcons (gnum (suc (suc (suc (suc (suc n)))))) (gcons (gnum l) (gcons w g))) =
      group_item (Some (text_from w)) (decode_all g) l
  decode (gcons h g) = literal_item 0

  decode_all : Gv → Items
  decode_all gnil = no_items
  decode_all (gnum n) = no_items
  decode_all (gcons i is) = item (decode i) (decode_all is)

mutual
  pub decode_encode : (i : Item) → decode (encode i) ≡ i
  decode_encode (name_item w l) = ap (λ v. name_item v l) (text_back w)
  decode_encode (iri_item w l) = ap (λ v. iri_item v l) (text_back w)
  decode_encode (literal_item l) = refl
  decode_encode (sign_item k l) = ap (λ j. sign_item j l) (kind_back k)
  decode_encode (group_item None is l) = ap (λ js. group_item None js l) (decode_encode_all is)
  decode_encode (group_item (Some w) is l) = λ k. group_item (Some (text_back w k)) (decode_encode_all is k) l

  pub decode_encode_all : (is : Items) → decode_all (encode_all is) ≡ is
  decode_encode_all no_items = refl
  decode_encode_all (item i is) = λ k. item (decode_encode i k) (decode_encode_all is k)

-- items can be coded as plain trees, and read back from their codes
abbrev pub item_code : Coded Item
item_code = code_by Gv itself encode decode decode_encode
