-- Glyph messages for stations four and five on one table (requests E10 and E14). `ReadFor e limit s station split T T' a` is the promise of
-- `glyph_stations::read`, for an edition, a limit of nesting, a message s, a table T that is split at a row and is T' after the call, and the answer a;
-- `WroteFor e limit T station split rows s out out' a` that of `glyph_stations::write`. `share_of station split T` are the share's words. Assumes nothing.
use mathlib.Core.Path.{◌≡◌, refl, sym, ap, ◌∙◌}
use mathlib.Core.Bool.{Bool, true, false}
use mathlib.Core.Logic.{◌↔◌}
use mathlib.Core.List.{List}
use Prim.Native.Nat.{ℕ, ◌*◌, ◌/◌, ◌≤◌}
use native.Mathlib.Omega.{arith}
use lib.ListN.{length, drop, replicate}
use Rattle.std.proofs.Common.{Ok, Err}
use Rattle.draft.specs.declared.Refusal.TheVariants.{NoLimit}
use Rattle.draft.specs.Limits.{allowed}
use Rattle.shares.specs.declared.Station.{Station}
use Rattle.shares.specs.Share.{no_share, other, splits, size_of, share_of}
use Rattle.shares.proofs.Lent.{below}
use Rattle.shares.proofs.Sharing as sharing
use Rattle.glyph.specs.declared.Edition.{Edition}
use Rattle.glyph.specs.declared.Refusal.TheVariants.{BadLimit}
use Rattle.glyph.specs.Answers.{reading, answer_of, refused_as}
use Rattle.glyph_form.specs.Answers as writer
use Rattle.glyph_demands.specs.Answered.{rows_in, Columns}
use Rattle.glyph_demands.proofs.Settled as whole-table
use Rattle.glyph_stations.specs.Answers.{StationAnswer, read_answer, read_words, ReadFor, write_answer, written_bytes, WroteFor, WriteAnswer}
use Rattle.glyph_shares.specs.Own.{OwnRead, OwnWrite, LastingFor}

-- a share keeps its length
keeps : (e : Edition) (limit : ℕ) (s W : List ℕ) → length (read_words e limit s W) ≡ length W
unfolding read_words
keeps e limit s W = whole-table.whole e limit s (length W) (record { says = refl; leaves = refl })

-- ---- 22, and what is not the share's

module _ {e : Edition} {limit : ℕ} {s : List ℕ} {station : Station} {split : ℕ} {T T' : List ℕ} {a : StationAnswer} (d : ReadFor e limit s station split T T' a) where
  -- 22 is told exactly if the row does not split the table.
  pub told_exactly : (a ≡ (Err no_share)) ↔ (splits split (length T) ≡ false)
  unfolding read_answer
  told_exactly = (λ i. go (splits split (length T)) refl i, λ h. d.says ∙ sharing.unsplit_told station split T (read_answer e limit s) (Err no_share) h)
    where
      go : (b : Bool) → splits split (length T) ≡ b → a ≡ (Err no_share) → splits split (length T) ≡ false
      go true ok i =
          let j : Ok (answer_of (reading e limit s (length (share_of station split T)))) ≡ (Err no_share) = sym (sharing.given_there station split T ok (read_answer e limit s) (Err no_share)) ∙ sym d.says ∙ i in
          let z : ◌≡◌ {A = ℕ} 0 1 = cc in
          absurd (omega arith)
      go false h i = h

  -- Then no word of the table is changed.
  pub nothing_changed : a ≡ (Err no_share) → T' ≡ T
  nothing_changed i = d.leaves ∙ sharing.unsplit_words station split T (read_words e limit s) (told_exactly.0 i)

  -- OTHER'S. No word of the other station's share is changed.
  pub others_stay : splits split (length T) ≡ true → share_of (other station) split T' ≡ share_of (other station) split T
  others_stay ok =
      ap (share_of (other station) split) d.leaves
      ∙ sharing.other_words station split T ok (read_words e limit s) (keeps e limit s (share_of station split T))

  -- BEYOND. Nor is a word beyond the last whole row.
  pub beyond_stays : drop (length T / 4 * 4) T' ≡ drop (length T / 4 * 4) T
  beyond_stays = go (splits split (length T)) refl
    where
      go : (b : Bool) → splits split (length T) ≡ b → drop (length T / 4 * 4) T' ≡ drop (length T / 4 * 4) T
      go true ok =
          ap (drop (length T / 4 * 4)) d.leaves
          ∙ sharing.words_behind station split T ok (read_words e limit s) (keeps e limit s (share_of station split T)) (length T / 4 * 4)
          (sharing.in_rows station split (length T) (below split (length T) ok))
      go false h = ap (drop (length T / 4 * 4)) (d.leaves ∙ sharing.unsplit_words station split T (read_words e limit s) h)

module _ {e : Edition} {limit : ℕ} {T : List ℕ} {station : Station} {split rows : ℕ} {s out out' : List ℕ} {a : WriteAnswer} (d : WroteFor e limit T station split rows s out out' a) where
  pub write_told_exactly : (a ≡ (Err no_share)) ↔ (splits split (length T) ≡ false)
  unfolding write_answer
  write_told_exactly = (λ i. go (splits split (length T)) refl i, λ h. d.says ∙ sharing.unsplit_told station split T (write_answer e limit rows s (length out)) (Err no_share) h)
    where
      go : (b : Bool) → splits split (length T) ≡ b → a ≡ (Err no_share) → splits split (length T) ≡ false
      go true ok i =
          let j : Ok (writer.answer_of e limit (share_of station split T) rows s (length out)) ≡ (Err no_share) = sym (sharing.given_there station split T ok (write_answer e limit rows s (length out)) (Err no_share)) ∙ sym d.says ∙ i in
          let z : ◌≡◌ {A = ℕ} 0 1 = cc in
          absurd (omega arith)
      go false h i = h

  -- Then no byte of the output is changed.
  pub no_byte_changed : a ≡ (Err no_share) → out' ≡ out
  no_byte_changed i = d.leaves ∙ sharing.unsplit_told station split T (written_bytes e limit rows s (length out)) out (write_told_exactly.0 i)

-- ---- the share

-- OWN. On its share a station's call does what the call without stations does on a table of the share's size: the answer is that call's, and so are
-- the share's words, or the output, after it.
module _ (station : Station) (split : ℕ) (T : List ℕ) (ok : splits split (length T) ≡ true) (e : Edition) (limit : ℕ) where
  pub own_read :
      (s : List ℕ) {T' : List ℕ} {a : StationAnswer} → ReadFor e limit s station split T T' a
      → OwnRead e limit s (size_of station split (length T)) (share_of station split T') a
  unfolding read_answer read_words
  own_read s d =
      let n : length (share_of station split T) ≡ size_of station split (length T) = sharing.share_size station split T ok in
      record {
        own = answer_of (reading e limit s (size_of station split (length T)));
        is = d.says ∙ sharing.given_there station split T ok (read_answer e limit s) (Err no_share) ∙ rw n;
        did =
            record {
              says = refl;
              leaves =
                  ap (share_of station split) d.leaves
                  ∙ sharing.own_words station split T ok (read_words e limit s) (keeps e limit s (share_of station split T)) ∙ rw n;
            };
      }

  pub own_write :
      (rows : ℕ) (s out : List ℕ) {out' : List ℕ} {a : WriteAnswer} → WroteFor e limit T station split rows s out out' a
      → OwnWrite e limit (share_of station split T) rows s out out' a
  unfolding write_answer written_bytes
  own_write rows s out d =
      record {
        own = writer.answer_of e limit (share_of station split T) rows s (length out);
        is = d.says ∙ sharing.given_there station split T ok (write_answer e limit rows s (length out)) (Err no_share);
        did = record { says = refl; leaves = d.leaves ∙ sharing.given_there station split T ok (written_bytes e limit rows s (length out)) out };
      }

-- ALIKE. Answer and share's words depend on the edition, the limit, the message and the share's size: for any two tables, rows and stations.
pub read_alike :
    (station other-station : Station) (split other-split : ℕ) (T U : List ℕ) → splits split (length T) ≡ true → splits other-split (length U) ≡ true
    → size_of station split (length T) ≡ size_of other-station other-split (length U) → (e : Edition) (limit : ℕ) (s : List ℕ) {T' U' : List ℕ} {a b : StationAnswer}
    → ReadFor e limit s station split T T' a → ReadFor e limit s other-station other-split U U' b
    → (a ≡ b) × (share_of station split T' ≡ share_of other-station other-split U')
read_alike station other-station split other-split T U ok ok' size e limit s c d =
    let x = own_read station split T ok e limit s c in
    let y = rw (← size) at (own_read other-station other-split U ok' e limit s d) in
    let z = whole-table.settled e limit s (size_of station split (length T)) x.did y.did in
    (x.is ∙ ap Ok z.0 ∙ sym y.is, z.1)

-- Answer and output depend on the edition, the limit, the share's words, the stated rows, the text bytes and the output's length.
pub write_alike :
    (station other-station : Station) (split other-split : ℕ) (T U : List ℕ) → splits split (length T) ≡ true → splits other-split (length U) ≡ true
    → share_of station split T ≡ share_of other-station other-split U → (e : Edition) (limit rows : ℕ) (s out₀ out₁ : List ℕ) → length out₀ ≡ length out₁
    → {out out' : List ℕ} {a b : WriteAnswer} → WroteFor e limit T station split rows s out₀ out a → WroteFor e limit U other-station other-split rows s out₁ out' b
    → (a ≡ b) × (out ≡ out')
write_alike station other-station split other-split T U ok ok' same e limit rows s out₀ out₁ size c d =
    let x = own_write station split T ok e limit rows s out₀ c in
    let y = own_write other-station other-split U ok' e limit rows s out₁ d in
    let i : x.own ≡ y.own = x.did.says ∙ rw (same, size) (sym y.did.says) in
    (x.is ∙ ap Ok i ∙ sym y.is, x.did.leaves ∙ rw (i, same, size) (sym y.did.leaves))

-- COLUMNS (E12) and GROWTH (E11) in a share: word j of its row r stands at its own room times j plus r, and its spare words are zero; and an answer
-- other than 8, 9, 22 and 23 stays under a higher limit and in a larger share, with its place and rows, the added words being zero.
pub share_columns :
    (station : Station) (split : ℕ) (T : List ℕ) → splits split (length T) ≡ true → (e : Edition) (limit : ℕ) (s : List ℕ) {T' : List ℕ} {a : StationAnswer}
    → ReadFor e limit s station split T T' a
    → Columns (size_of station split (length T)) (share_of station split T') (rows_in (reading e limit s (size_of station split (length T))))
share_columns station split T ok e limit s d = whole-table.columns e limit s (size_of station split (length T)) (own_read station split T ok e limit s d).did

pub share_stays :
    (here there : Station) (split split' : ℕ) (T U : List ℕ) → splits split (length T) ≡ true → splits split' (length U) ≡ true
    → (e : Edition) (s : List ℕ) {limit later : ℕ} → limit ≤ later → later ≤ 32 → size_of here split (length T) ≤ size_of there split' (length U)
    → {T' U' : List ℕ} {a b : StationAnswer} → ReadFor e limit s here split T T' a → ReadFor e later s there split' U U' b → LastingFor a
    → (b ≡ a) × Columns (size_of there split' (length U)) (share_of there split' U') (rows_in (reading e limit s (size_of here split (length T))))
share_stays here there split split' T U ok ok' e s {limit} {later} higher most larger c d l =
    let x = own_read here split T ok e limit s c in
    let y = own_read there split' U ok' e later s d in
    let z = whole-table.stays e s higher most larger x.did y.did (rw x.is at l) in
    (y.is ∙ ap Ok z.0 ∙ sym x.is, z.1)

-- 23: the share, or the output, is zeros.
module _ (station : Station) (split : ℕ) (T : List ℕ) (ok : splits split (length T) ≡ true) (e : Edition) {limit : ℕ} (h : allowed limit ≡ false) where
  pub read_unlimited :
      (s : List ℕ) {T' : List ℕ} {a : StationAnswer} → ReadFor e limit s station split T T' a
      → (a ≡ Ok (refused_as BadLimit 0)) × (share_of station split T' ≡ replicate (size_of station split (length T)) 0)
  read_unlimited s d =
      let x = own_read station split T ok e limit s d in
      let z = whole-table.unlimited e limit s (size_of station split (length T)) h x.did in
      (x.is ∙ ap Ok z.0, z.1)

  pub write_unlimited :
      (rows : ℕ) (s out : List ℕ) {out' : List ℕ} {a : WriteAnswer} → WroteFor e limit T station split rows s out out' a
      → (a ≡ Ok (Err NoLimit)) × (out' ≡ replicate (length out) 0)
  unfolding writer.answer_of
  write_unlimited rows s out d =
      let x = own_write station split T ok e limit rows s out d in
      let i : x.own ≡ Err NoLimit = x.did.says ∙ rw h in
      (x.is ∙ ap Ok i, x.did.leaves ∙ rw i)
