-- Reading grows with its limits: an answer other than 8 and 9 stays, 8 changes only where more may nest, and 9 only where there is more room.
-- Assumes nothing.
use mathlib.Core.Path.{◌≡◌, refl}
use mathlib.Core.Bool.{Bool, true, false, cond}
use mathlib.Core.List.{List, [], ◌∷◌, ◌++◌}
use Prim.Native.Nat.{ℕ, zero, suc, ◌+◌, ◌≤◌, ◌<◌}
use native.Mathlib.Omega.{arith}
use lib.Dec.{ltb, leb, eqb}
use lib.ListN.{length, get_or}
use borrow.Author.Tests.{ltb-true, ltb-false}
use Rattle.draft.specs.declared.Row.{Row}
use Rattle.draft.specs.Rows.{row}
use Rattle.glyph.specs.declared.Refusal.TheVariants.{Ended, UnexpectedByte, TooDeep, NoRow}
use Rattle.glyph.specs.declared.Edition.{Edition}
use Rattle.glyph.specs.declared.Many.{Many as ManyLetter}
use Rattle.glyph.specs.declared.Three.{Three as ThreeLetter}
use Rattle.glyph.specs.declared.Letter.{Letter}
use Rattle.glyph.specs.declared.Letter.TheVariants.{Leaf, Many, Three, Unknown}
use Rattle.glyph.specs.declared.Want.{Want}
use Rattle.glyph.specs.declared.Want.TheVariants.{Any, Text}
use Rattle.glyph.specs.Letters.{letter_of, wanted, name_want, attributes_want, three_kind, many_kind, keyed_by}
use Rattle.glyph.specs.Numbers.{past}
use Rattle.glyph.specs.Read.{Reading, got, refused, then, behind, Reader, Texts, floor, under, opened, next, run, distinct, entry, kept, closing, many, three, item, object, root}

-- the same; or 8, if D, or 9, if R
pub data Grows (D R : Type 0) : Reading → Reading → Type 0 where
  stays : {o : Reading} → Grows D R o o
  deep : {p : ℕ} {o : Reading} → D → Grows D R (refused TooDeep p) o
  full : {p : ℕ} {o : Reading} → R → Grows D R (refused NoRow p) o

-- where more may nest if D holds, and there is more room if R holds
module _ (D R : Type 0) where
  grows_left : (b : Bool) (x x' y : Reading) → Grows D R x x' → Grows D R (cond b x y) (cond b x' y)
  grows_left true x x' y g = g
  grows_left false x x' y g = stays

  grows_right : (b : Bool) (x y y' : Reading) → Grows D R y y' → Grows D R (cond b x y) (cond b x y')
  grows_right true x y y' g = stays
  grows_right false x y y' g = g

  grows_then : {o o' : Reading} (f g : List Row → ℕ → Reading) → Grows D R o o' → ((rows : List Row) (at : ℕ) → Grows D R (f rows at) (g rows at)) → Grows D R (then o f) (then o' g)
  grows_then f g (stays {o}) h = go o
    where
      go : (o : Reading) → Grows D R (then o f) (then o g)
      go (refused m p) = stays
      go (got rows at) = h rows at
  grows_then f g (deep x) h = deep x
  grows_then f g (full x) h = full x

  grows_behind : (rows : List Row) {o o' : Reading} → Grows D R o o' → Grows D R (behind rows o) (behind rows o')
  grows_behind rows stays = stays
  grows_behind rows (deep x) = deep x
  grows_behind rows (full x) = full x

  grows_opened : {room room' : ℕ} (at r : ℕ) {o o' : Reading} → room ≤ room' → (room < room' → R) → Grows D R o o' → Grows D R (opened room at r o) (opened room' at r o')
  grows_opened {room} {room'} at r {o} {o'} h more g = go (ltb r room) refl (ltb r room') refl
    where
      go : (b : Bool) → ltb r room ≡ b → (c : Bool) → ltb r room' ≡ c → Grows D R (cond b o (refused NoRow at)) (cond c o' (refused NoRow at))
      go true i true j = g
      go true i false j = absurd (omega (arith, ltb-true r room i, ltb-false r room' j))
      go false i true j = full (more (omega (arith, ltb-false r room i, ltb-true r room' j)))
      go false i false j = stays

  -- readers that grow
  pub Growing : Reader → Reader → Type 0
  Growing f g = (at r : ℕ) → Grows D R (f at r) (g at r)

  module _ (s : List ℕ) where
    grows_next : {o o' : Reading} (r : ℕ) (f g : Reader) → Grows D R o o' → Growing f g → Grows D R (next s o r f) (next s o' r g)
    unfolding Growing
    grows_next r f g x h =
        grows_then (λ rows at. behind rows (f (past s at) (r + length rows))) (λ rows at. behind rows (g (past s at) (r + length rows))) x (λ rows at. grows_behind rows (h (past s at) (r + length rows)))

    grows_run : (f g : Texts → Reader) (more : Texts → List Row → Texts) (kind fuel n : ℕ) (seen : Texts) (acc : List Row) → ((seen : Texts) → Growing (f seen) (g seen)) → Growing (run s f more kind fuel n seen acc) (run s g more kind fuel n seen acc)
    unfolding Growing run
    grows_run f g more kind zero n seen acc h at r = stays
    grows_run f g more kind (suc fuel) n seen acc h at r =
        grows_right (eqb (get_or s at 0) 59) (got (row kind 0 n (r + 1 + length acc) ∷ acc) (at + 1)) _ _
        (grows_then (λ rows at'. run s f more kind fuel (n + 1) (more seen rows) (acc ++ rows) (past s at') r) (λ rows at'. run s g more kind fuel (n + 1) (more seen rows) (acc ++ rows) (past s at') r) (h seen at (r + 1 + length acc))
        (λ rows at'. grows_run f g more kind fuel (n + 1) (more seen rows) (acc ++ rows) h (past s at') r))

    grows_distinct : (seen : Texts) (at : ℕ) {o o' : Reading} → Grows D R o o' → Grows D R (distinct s seen at o) (distinct s seen at o')
    unfolding distinct
    grows_distinct seen at stays = stays
    grows_distinct seen at (deep x) = deep x
    grows_distinct seen at (full x) = full x

    grows_entry : (b : Bool) (f g : Want → Reader) → ((w : Want) → Growing (f w) (g w)) → (seen : Texts) → Growing (entry s b f seen) (entry s b g seen)
    unfolding Growing entry
    grows_entry true f g h seen at r = grows_next r (f Any) (g Any) (grows_distinct seen at (h Text at r)) (h Any)
    grows_entry false f g h seen at r = h Any at r

    grows_closing : (kind r : ℕ) {o o' : Reading} → Grows D R o o' → Grows D R (closing s kind r o) (closing s kind r o')
    grows_closing kind r stays = stays
    grows_closing kind r (deep x) = deep x
    grows_closing kind r (full x) = full x

    module _ (f g : Want → Reader) (h : (w : Want) → Growing (f w) (g w)) where
      grows_many : (l : ManyLetter) → Growing (many s l f) (many s l g)
      unfolding Growing many
      grows_many l at r = grows_run (entry s (keyed_by l) f) (entry s (keyed_by l) g) (kept s (keyed_by l)) (many_kind l) (length s) 0 [] [] (grows_entry (keyed_by l) f g h) (past s (at + 1)) r

      grows_three : (l : ThreeLetter) → Growing (three s l f) (three s l g)
      unfolding Growing three
      grows_three l at r =
          grows_closing (three_kind l) r
          (grows_next (r + 1) (f Any) (g Any)
          (grows_next (r + 1) (f (attributes_want l)) (g (attributes_want l))
          (grows_next (r + 1) (f (name_want l)) (g (name_want l)) (stays {o = got [] (at + 1)}) (h (name_want l)))
          (h (attributes_want l)))
          (h Any))

  -- more room, and more nesting
  module _ (s : List ℕ) {room room' : ℕ} (m : room ≤ room') (more : room < room' → R) where
    grows_nested : (o : (Want → Reader) → Reader) (f g : Want → Reader) (at r : ℕ) → Growing (o f) (o g) → Grows D R (opened room at r (o f at r)) (opened room' at r (o g at r))
    unfolding Growing
    grows_nested o f g at r h = grows_opened at r m more (h at r)

    item_floor : (l : Letter) (at r : ℕ) → Grows D R (item s room l floor at r) (item s room' l floor at r)
    item_floor (Leaf l) at r = grows_opened at r m more stays
    item_floor (Many l) at r = stays
    item_floor (Three l) at r = stays
    item_floor Unknown at r = stays

    item_deeper : D → (l : Letter) (f : Want → Reader) (at r : ℕ) → Grows D R (item s room l floor at r) (item s room' l (under f) at r)
    item_deeper x (Leaf l) f at r = grows_opened at r m more stays
    item_deeper x (Many l) f at r = deep x
    item_deeper x (Three l) f at r = deep x
    item_deeper x Unknown f at r = stays

    item_under : (l : Letter) (f g : Want → Reader) → ((w : Want) → Growing (f w) (g w)) → (at r : ℕ) → Grows D R (item s room l (under f) at r) (item s room' l (under g) at r)
    item_under (Leaf l) f g h at r = grows_opened at r m more stays
    item_under (Many l) f g h at r = grows_nested (many s l) f g at r (grows_many s f g h l)
    item_under (Three l) f g h at r = grows_nested (three s l) f g at r (grows_three s f g h l)
    item_under Unknown f g h at r = stays

    pub object_grows : (e : Edition) (d d' : ℕ) → d ≤ d' → (d < d' → D) → (w : Want) → Growing (object s room e d w) (object s room' e d' w)
    unfolding Growing object
    object_grows e zero zero h k w at r = grows_left (ltb at (length s)) _ _ (refused Ended at) (item_floor (wanted w (letter_of e (get_or s at 0))) at r)
    object_grows e zero (suc d') h k w at r =
        grows_left (ltb at (length s)) _ _ (refused Ended at) (item_deeper (k (omega arith)) (wanted w (letter_of e (get_or s at 0))) (object s room' e d') at r)
    object_grows e (suc d) zero h k w at r = absurd (omega arith)
    object_grows e (suc d) (suc d') h k w at r =
        grows_left (ltb at (length s)) _ _ (refused Ended at)
        (item_under (wanted w (letter_of e (get_or s at 0))) (object s room e d) (object s room' e d') (object_grows e d d' (omega arith) (λ i. k (omega arith))) at r)

    pub root_growing : (e : Edition) (d d' : ℕ) → d ≤ d' → (d < d' → D) → Grows D R (root s room e d) (root s room' e d')
    unfolding root Growing
    root_growing e d d' h k =
        grows_then (λ rows at. cond (leb (length s) (past s at)) (got rows at) (refused UnexpectedByte (past s at))) (λ rows at. cond (leb (length s) (past s at)) (got rows at) (refused UnexpectedByte (past s at))) (object_grows e d d' h k Any (past s 0) 0) (λ rows at. stays)

-- A MESSAGE, with no less room and no less nesting
pub root_grows : (s : List ℕ) {room room' : ℕ} → room ≤ room' → (e : Edition) (d d' : ℕ) → d ≤ d' → Grows (d < d') (room < room') (root s room e d) (root s room' e d')
root_grows s {room} {room'} m e d d' h = root_growing (d < d') (room < room') s m (λ i. i) e d d' h (λ i. i)
