-- E2 holds.
use Rattle.records.proofs.Records as found
use Rattle.demands_jobs.proofs.Jobs as jobs
use Rattle.demands.specs.E2.{E2}

pub holds : E2
holds = record {
  records = record {
    card_found = found.card_exactly;
    rest_ignored = λ u t n words e d d'. jobs.rest_ignored u t n words d d' e;
  };
  cards = record {
    card_alone = λ s n words c d h. jobs.card_alone c words d h;
    alike = jobs.alike;
    numbered_from_zero = jobs.counted;
    still_reads = λ u t n words c d d'. jobs.still_reads u t n words d d' c;
  };
  refusals = λ s n words d place. record {
    fifteen = jobs.fifteen s n words d place;
    sixteen = jobs.sixteen s n words d place;
    twenty_six = jobs.twenty_six s n words d place;
  };
  told = λ s n words {T} {a} d. record {
    body_named = λ c e. jobs.body_named c words d e;
    refused_body = jobs.refused_body a;
    settled = λ d'. jobs.settled s n words d d';
    refused_zeros = jobs.refused_zeros s words _ d;
  };
  next_card = found.next_from_end;
}
