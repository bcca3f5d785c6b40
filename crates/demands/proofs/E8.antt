-- E8 holds, by the laws of demands_lookups.
use Rattle.demands_lookups.proofs.Index as index
use Rattle.demands.specs.E8.{E8}

pub holds : E8
holds = record {
  filled = λ c w e n es f. record {
    as_lent = index.filled_length c.table c.rows c.text e w c.row f;
    room = index.filled_room c.table c.rows c.text e w c.row f;
    members = index.filled_members c.table c.rows c.text e w c.row f;
    all = index.filled_all c.table c.rows c.text e w c.row f;
    once = index.filled_once c.table c.rows c.text e w c.row f;
    sorted = index.filled_before c.table c.rows c.text e w c.row f;
    finds = index.filled_finds c.table c.rows c.text e w c.row f;
    unused_zero = index.filled_rest c.table c.rows c.text e w c.row f;
  };
  accepted = λ c w n answer es f. index.fill_none c w f;
  each_key = λ c es keys ends n i d h. index.each_key c.table c.rows c.text c.row es keys ends n i d h;
  any_list = index.free;
  not_named = index.not_named;
  eleven_apart = index.through_eleven;
  find_returns = index.find_returns;
  eleven = λ c w n answer es f. index.fill_eleven c w f;
  eighteen = λ c w n answer es f. index.fill_eighteen c w f;
  twenty_one = λ c w n answer es f. index.fill_short c w f;
  refused_zero = λ c n answer es f. index.refused_unused f;
}
