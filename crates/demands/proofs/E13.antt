-- E13 holds.
use native.Mathlib.Omega.{arith}
use Rattle.demands_plans.proofs.Plans as plans
use Rattle.demands.specs.E13.{E13}

pub holds : E13
holds = record {
  sending = record { by_form = plans.by_form; in_row_order = plans.in_row_order; plan_message = plans.plan_message };
  sent_so = λ limit T rows s p w r t. plans.sent_so limit T rows s r.2 w p t;
  taken = λ limit T rows s p out₀ out w d r. plans.taken_unless limit T rows s p out₀ out w d r;
  writes = λ limit T rows s p out₀ out w d. record {
    which = plans.which limit T rows s p out₀ out d;
    the_form = plans.form_written limit T rows s p out₀ out d w;
    no_shorter = λ few t r. let h = plans.no_shorter limit T rows s p out₀ out d few t r.room r.deep r.is r.same in omega (arith, h.0, h.1);
    never_longer = plans.never_longer limit T rows s p out₀ out d;
    read_back = plans.read_back limit T rows s p out₀ out d w;
  };
  same_bytes = λ limit limit' T T' rows rows' s s' p out₀ out₁ out out' w w' d d'.
      plans.same_bytes limit limit' T T' rows rows' s s' p out₀ out₁ out out' w w' d d';
  answered = λ limit T rows s p out₀ out {a} w d. record {
    twenty_four = plans.twenty_four limit T rows s p out₀ out w d;
    accepted = plans.accepted_exactly limit T rows s p out₀ out w d;
    refused = plans.refused_exactly limit T rows s p out₀ out w d;
    zeros = plans.refused_zeros limit T rows s p out₀ out a d;
  };
  alike = λ limit T T' rows s p out₀ out₁ out out' w w' o l d d'. record {
    settled = λ e. plans.settled limit T T' rows s p out₀ out₁ out out' l e d d';
    stated_words = λ hold h. plans.stated_words limit T T' rows s p out₀ out₁ out out' w w' o hold l d d' h;
    stated_columns = λ hold h. plans.stated_columns limit T T' rows s p out₀ out₁ out out' w w' o hold l d d' h;
  };
  from_the_reader = λ limit s words later p out₀ out o w h c d. plans.from_the_reader limit s words later o h c p out₀ out w d;
  certified_plan = λ T rows s p prices w yes. plans.certified_plan T rows s p prices yes w;
  certified_shortest = λ T rows s p prices yes t o r.
      let h = plans.certified_shortest T rows s p prices yes t o r.room r.deep r.is r.same in
      omega (arith, h.0, h.1);
  certified_written = λ T rows s p prices yes limit out₀ out d t o r.
      let h = plans.written_shortest T rows s p prices yes limit out₀ out d t o r.room r.deep r.is r.same in
      omega (arith, h.0, h.1);
}
