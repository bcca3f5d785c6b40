-- Rows that realise what an edition derives are walked to their end: one law for each production. Assumes nothing.
use mathlib.Core.Path.{◌≡◌, refl, ap, ◌∙◌}
use mathlib.Core.Bool.{true, false}
use mathlib.Core.List.{List, [], ◌∷◌, append-nil}
use Prim.Native.Nat.{ℕ, zero, suc, ◌<◌}
use native.Mathlib.Omega.{arith}
use native.Mathlib.Nat.{add-zero}
use lib.ListN.{length}
use borrow.Author.Tests.{lt-ltb}
use lib.Dec.{ltb}
use Rattle.std.proofs.Common.{Some}
use Rattle.text.specs.Utf8.{well_formed}
use Rattle.text.specs.Texts.{among}
use Rattle.draft.specs.declared.Row.{Row}
use Rattle.std.specs.Prelude.{Ok}
use Rattle.draft.specs.declared.Content.TheVariants as content
use Rattle.draft.specs.Content.{content_rule, key_rule}
use Rattle.draft.specs.Read.{Texts}
use Rattle.draft.specs.Grammar.{cell, contents, Cell, Keeps}
use Rattle.draft.specs.Writable.{fit, pair as walk_pair, alike, nothing, member, keeping}
use Rattle.written.proofs.Standing.{Stands, stands_head}
use Rattle.written.proofs.Combining.{first_kind, first_kind_lem, WalkedBy, WalkedAt, RunBy, content_fits, text_fits, integer_fits, boolean_fits, held_fits, pair_fits, no_items, more_items, counted_fits, text_there, none_kept, alike_fits, member_fits}
use Rattle.glyph.specs.declared.Edition.{Edition}
use Rattle.glyph.specs.declared.Many.TheVariants as many
use Rattle.glyph.specs.declared.Three.TheVariants as three
use Rattle.glyph.specs.declared.Want.{Want}
use Rattle.glyph.specs.declared.Want.TheVariants.{Any}
use Rattle.glyph.specs.Tree.{Tree, Trees, none, also, Pairs, count, count_pairs, cells, cells_of, pair_cells}
use Rattle.glyph.specs.Grammar.{Meets, any, unicode_met, dict_met, ordered_met, old_node, Object, integer, unicode, bytearray, true_object, false_object, nil, list, dict, ordered_dict, extension, node, Objects, close, more, Members, close_members, more_members, Parts, parts}
use Rattle.glyph_form.specs.declared.Sort.{Sort}
use Rattle.glyph_form.specs.declared.Sort.TheVariants.{Integer, Boolean, Content, Nil, Many, Three}
use Rattle.glyph_form.specs.Sorts.{sort_of, meets}
use Rattle.glyph_form.specs.Writable.{Nest, floor, under, entry, kept, entries, item, object}

-- a place takes what meets it, by the kind of its first row
met : {w : Want} {t : Tree} → Meets w t → meets w (first_kind (cells t)) ≡ true
unfolding meets cells
met any = refl
met unicode_met = refl
met dict_met = refl
met ordered_met = refl

keeps_text : (t : List ℕ) → well_formed t ≡ true → Keeps content.Text t
unfolding content_rule
keeps_text t w = rw w

keeps_bytes : (t : List ℕ) → Keeps content.Binary t
unfolding content_rule
keeps_bytes t = refl

fresh : (seen : Texts) (k : List ℕ) → among seen k ≡ false → key_rule seen k ≡ Ok tt
unfolding key_rule
fresh seen k h = rw h

-- the rows by their numbers, how many there are, and the text bytes
module _ (row : ℕ → Row) (rows : ℕ) (s : List ℕ) where
  -- what may nest in an object
  abbrev pub nest : Edition → ℕ → Nest
  nest e zero = floor
  nest e (suc d) = under (object row rows s e d)

  pub object_is :
      (e : Edition) (d : ℕ) (w : Want) (r : ℕ)
      → object row rows s e d w r ≡ fit (ltb r rows) (fit (meets w (row r).kind) (item row rows s (sort_of e (row r).kind) (nest e d) (row r) r))
  unfolding object
  object_is e zero w r = refl
  object_is e (suc d) w r = refl

  -- an object by its kind
  by_kind :
      (e : Edition) (d : ℕ) {w : Want} {t : Tree} (o : Sort)
      → Meets w t
      → (0 < length (cells t)) × (sort_of e (first_kind (cells t)) ≡ o)
      → WalkedAt row rows s (item row rows s o (nest e d)) (cells t)
      → WalkedBy row rows s (object row rows s e d w) (cells t)
  by_kind e d {w} o m b g =
      record {
        walks = λ r h l.
            let k = first_kind_lem h b.0 in
            let z : sort_of e (row r).kind ≡ o = ap (sort_of e) k ∙ b.1 in
            object_is e d w r ∙ rw (lt-ltb r rows (omega (arith, b.0)), z, ap (meets w) k ∙ met m) (g.walks r h l);
      }

  nothing_fits : WalkedBy row rows s (λ r. Some r) []
  nothing_fits = record { walks = λ r h l. rw add-zero }

  key_kept : (seen : Texts) {k : List ℕ} {cs : List Cell} (r : ℕ) → Stands row s r (cell 11 0 (contents k) ∷ cs) → keeping row rows s seen r ≡ k ∷ seen
  unfolding keeping
  key_kept seen r h = rw (text_there row rows s (stands_head h))

  mutual
    unfolding cells sort_of entries entry kept

    pub fits : {e : Edition} {d : ℕ} {xs : List ℕ} {t : Tree} → Object e d xs t → {w : Want} → Meets w t → WalkedBy row rows s (object row rows s e d w) (cells t)
    fits {e} {d} (integer m h i j q) w = by_kind e d Integer w (omega arith, refl) (record { walks = λ r h l. (integer_fits row rows s).walks r h l })
    fits {e} {d} (unicode {t = t} c g) w = by_kind e d (Content content.Text) w (omega arith, refl) (record { walks = λ r h l. (text_fits row rows s (keeps_text t g)).walks r h l })
    fits {e} {d} (bytearray {t = t} c) w = by_kind e d (Content content.Binary) w (omega arith, refl) (record { walks = λ r h l. (content_fits row rows s content.Binary (keeps_bytes t) refl).walks r h l })
    fits {e} {d} true_object w = by_kind e d Boolean w (omega arith, refl) (record { walks = λ r h l. (boolean_fits row rows s (omega arith)).walks r h l })
    fits {e} {d} false_object w = by_kind e d Boolean w (omega arith, refl) (record { walks = λ r h l. (boolean_fits row rows s (omega arith)).walks r h l })
    fits {e} {d} nil w = by_kind e d Nil w (omega arith, refl) (record { walks = λ r h l. (held_fits row rows s 13 0 nothing_fits refl).walks r h l })
    fits {e} {d} (list b h q) w = by_kind e d (Many many.List) w (omega arith, refl) (let g = counted_fits row rows s 9 (all_fit h) refl in record { walks = λ r h l. g.walks r h l })
    fits {e} {d} (dict b h q) w = by_kind e d (Many many.Dict) w (omega arith, refl) (let g = counted_fits row rows s 10 (pairs_fit h) refl in record { walks = λ r h l. g.walks r h l })
    fits {e} {d} (ordered_dict b h q) w = by_kind e d (Many many.Ordered) w (omega arith, refl) (let g = counted_fits row rows s 14 (pairs_fit h) refl in record { walks = λ r h l. g.walks r h l })
    fits {e} {d} (extension x h) w = by_kind e d (Three three.Extension) w (omega arith, refl) (let g = held_fits row rows s 15 3 (parts_fit h) refl in record { walks = λ r h l. g.walks r h l })
    fits {e} {d} (node old_node h) w = by_kind e d (Three three.Node) w (omega arith, refl) (let g = held_fits row rows s 16 3 (parts_fit h) refl in record { walks = λ r h l. g.walks r h l })

    all_fit : {e : Edition} {d : ℕ} {xs : List ℕ} {ts : Trees} → Objects e d xs ts → RunBy row rows s (alike (object row rows s e d Any)) nothing (count ts) [] (cells_of ts)
    all_fit close = no_items row rows s
    all_fit (more o b h q) = more_items row rows s (alike_fits row rows s [] (fits o any)) (none_kept row rows s []) (all_fit h) refl

    pairs_fit :
        {e : Edition} {d : ℕ} {seen : Texts} {xs : List ℕ} {ps : Pairs} → Members e d seen xs ps
        → RunBy row rows s (member row rows s (object row rows s e d Any)) (keeping row rows s) (count_pairs ps) seen (pair_cells ps)
    pairs_fit close_members = no_items row rows s
    pairs_fit {seen = seen} (more_members {k = k} (unicode x g) n b p c h q) =
        more_items row rows s (member_fits row rows s seen (keeps_text k g) (fresh seen k n) (fits p any)) (key_kept seen) (pairs_fit h) refl

    parts_fit :
        {e : Edition} {d : ℕ} {w v : Want} {xs : List ℕ} {a b c : Tree} → Parts e d w v xs a b c
        → WalkedBy row rows s (walk_pair (object row rows s e d w) (walk_pair (object row rows s e d v) (object row rows s e d Any))) (cells_of (also a (also b (also c none))))
    parts_fit {c = c} (parts p o m q l n i g j u) = pair_fits row rows s (fits o m) (pair_fits row rows s (fits l n) (rw append-nil (fits g any)))
