-- Request E10 holds.
use Rattle.std.specs.Prelude.{Err}
use mathlib.Core.Path.{◌≡◌, refl}
use mathlib.Core.Bool.{true}
use mathlib.Core.List.{List}
use Prim.Native.Nat.{ℕ}
use lib.ListN.{length, take, drop}
use Rattle.shares.specs.declared.Station.{Station}
use Rattle.shares.specs.Share.{no_share, splits, first_word, size_of, share_of}
use Rattle.shares.proofs.Sharing.{four_size}
use Rattle.station_tables.specs.Answers.{lookup_answer, position_answer}
use Rattle.demands_stations.proofs.Stations as stations
use Rattle.demands.specs.E10.{OfOneSize, OfTheSameWords, AsAlone, E10}

module _ (here there : Station) (split split' : ℕ) (T U : List ℕ) (ok : splits split (length T) ≡ true) (ok' : splits split' (length U) ≡ true) where
  of_one_size : size_of here split (length T) ≡ size_of there split' (length U) → OfOneSize here there split split' T U
  of_one_size size = record {
    read = λ limit s d e. stations.read_alike here there split split' T U ok ok' size limit s d e;
    card = λ s number d e. stations.card_alike here there split split' T U ok ok' size s number d e;
  }

  of_the_same_words : share_of here split T ≡ share_of there split' U → OfTheSameWords here there split split' T U
  of_the_same_words same = record {
    write = λ limit rows s out out₁ l. stations.write_alike here there split split' T U ok ok' same limit rows s out out₁ l;
    plan = λ limit rows s p out out₁ l. stations.planned_alike here there split split' T U ok ok' same limit rows s out out₁ l p;
    looked_up = λ rows s r key. stations.given_alike here there split split' T U ok ok' same (lookup_answer rows s r key) (Err no_share) (Err no_share);
    placed = λ rows s r. stations.given_alike here there split split' T U ok ok' same (position_answer rows s r) (Err no_share) (Err no_share);
  }

as_alone : (station : Station) (split : ℕ) (T : List ℕ) → splits split (length T) ≡ true → AsAlone station split T
as_alone station split T ok = record {
  read = λ limit s d. stations.own_read station split T ok limit s d;
  card = λ s number d. stations.own_card station split T ok s number d;
  piece = λ limit state p R d. stations.own_piece station split T ok limit state p R d;
  end = λ limit state bytes d. stations.own_end station split T ok limit state bytes d;
  write = stations.own_write station split T ok;
  plan = stations.own_planned station split T ok;
  looked_up = stations.own_lookup station split T ok;
  placed = stations.own_position station split T ok;
}

share_is : (station : Station) (split : ℕ) (T : List ℕ) → share_of station split T ≡ take (size_of station split (length T)) (drop (first_word station split) T)
unfolding share_of
share_is station split T = refl

pub holds : E10
holds = record {
  side_by_side = λ split words ok. (refl, four_size split words, refl, (stations.shares_lie split words ok).2);
  share_is = share_is;
  others_stay = λ c. stations.others_stay c;
  size_settles = of_one_size;
  words_settle = of_the_same_words;
  pieces_settle = stations.turns_alike;
  end_settled = stations.end_alike;
  either_order = λ split c d e f. let s = stations.in_turn split c d e f in (s.table, s.four, s.five);
  as_alone = as_alone;
  after_each_piece = stations.share_after_each;
  at_the_end = λ limit ok station split T R₀ W₀ long ps ts few d.
      let e = stations.pieces_whole limit ok station split T R₀ W₀ long ps ts few d in
      (e.says, e.table);
  beyond_stays = λ c. (stations.beyond_stays c, stations.length_stays c);
  splits_exactly = stations.splits_exactly;
  refused = λ c. stations.told_exactly c;
  looked_up_refused = stations.lookup_exactly;
  placed_refused = stations.position_exactly;
  reported = (refl, refl, refl, refl, refl, refl);
  nothing_changed = λ c. stations.nothing_changed c;
  write_refused = stations.write_exactly;
  plan_refused = stations.planned_exactly;
}
