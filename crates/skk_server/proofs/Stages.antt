-- Stages of the serving of a listener's connections: one begins, the oldest ends, and all are over.
use Rattle.std.proofs.Common.{◌≡◌, ◌∙◌, ◌≤◌, ◌<◌, ℕ, zero, suc, ◌+◌, List, [], ◌∷◌, ◌++◌}
use Rattle.std.proofs.Common.{length, map, refl, sym, ap, subst, arith, ◌⊎◌, inl}
use Rattle.std.proofs.Common.{Option, None, Some, append_assoc, append-nil}
use Rattle.std.proofs.lemmas.List.{map-append, length-append, length-map}
use Rattle.std.proofs.lemmas.List.Sums.{sum_by_push}
use Rattle.std.specs.Option.{option_map}
use Rattle.romaji_rules.specs.declared.rule.Rule.{Rule}
use Rattle.skk_outside.specs.declared.listener.Listener.{Ghosts as ListenerGhosts}
use Rattle.skk_outside.specs.declared.outside.Outside.{Ghosts as OutsideGhosts}
use Rattle.skk_outside.specs.Faults.{Rose}
use Rattle.skk_calls.specs.declared.caller.Caller.{Ghosts as CallerGhosts}
use Rattle.skk_calls.specs.declared.caller.Kept.{Ghosts as KeptGhosts}
use Rattle.skk_server.specs.declared.end.End.{End}
use Rattle.skk_server.specs.declared.end.End.TheVariants.{Memory}
use Rattle.skk_server.specs.declared.hall.Hall.{Hall}
use Rattle.skk_server.specs.declared.promised.Promised.{Promised}
use Rattle.skk_server.specs.declared.served.Served.{Served}
use Rattle.skk_server.specs.declared.served_end.ServedEnd.{ServedEnd}
use Rattle.skk_server.specs.declared.served_end.ServedEnd.TheVariants as ended
use Rattle.skk_server.specs.declared.start.Start.{Start}
use Rattle.skk_server.specs.declared.work.Accepted.{Accepted}
use Rattle.skk_server.specs.Ends.{Serves, moved_link}
use Rattle.skk_server.specs.Services.{EndsServing, ServesAll}
use Rattle.skk_server.specs.Stages.{accepted_in, passes_in, CountsStay, Stage, TakesLink, GivesBack}
use Rattle.skk_server.specs.Stages.{AddsWork, Opens, JoinsSome}
use Rattle.skk_server.specs.Visits.{Visit, ServesLink, IsServed, HasWorked, AreServed}
use Rattle.skk_server.specs.Works.{begun, passes_of, passes_under_way, BeganWith, IsClosed, IsUnderWay, AreUnderWay}
use Rattle.skk_server.proofs.Joins.{begun-all, passes-all, length-all, way-all}
use Rattle.skk_server.proofs.Turns.{unserved}
use Rattle.skk_server.proofs.Visits.{more-came, more-over, served-more, served-last, slips-few, passes-few}
use Rattle.skk_server.proofs.Visits.{way-more}

-- where nothing came, all is still to come
nothing-came : {L : Type 0} (coming : Option (List L)) → coming ≡ option_map (λ rest. [] ++ rest) coming
nothing-came None = refl
nothing-came (Some rest) = refl

-- where nothing was given back, nothing more is over
nothing-over : {L : Type 0} (over : Option (List L)) → over ≡ option_map (λ before. before ++ []) over
nothing-over None = refl
nothing-over (Some before) = ap Some (sym (append-nil before))

-- a list of no length has nothing
empty : {A : Type 0} (xs : List A) → length xs ≡ 0 → xs ≡ []
empty [] none = refl
empty (x ∷ xs) none = absurd (omega (arith, none))

-- a link that was closed has moved nothing
closed-moved : {L : Type 0} (links : OutsideGhosts L) (link link' : L) → IsClosed links link link'
    → moved_link links link link
    ≡ moved_link links link link'
closed-moved links link link' closed =
    ap (λ x. record {
      left = links.left link;
      left' = x;
      written = links.written link;
      written' = links.written link;
      faults = links.faults link;
      faults' = links.faults link;
    }) (sym closed.left_is)
    ∙ (ap (λ x. record {
      left = links.left link;
      left' = links.left link';
      written = links.written link;
      written' = x;
      faults = links.faults link;
      faults' = links.faults link;
    }) (sym closed.written_is)
    ∙ ap (λ x. record {
      left = links.left link;
      left' = links.left link';
      written = links.written link;
      written' = links.written link';
      faults = links.faults link;
      faults' = x;
    }) (sym closed.faults_is))

-- a link that was closed, and nothing else, was served as one of which memory was out
closed-served : {L : Type 0} (rules : List Rule) (links : OutsideGhosts L) (link link' : L) → IsClosed links link link'
    → ServesLink rules links link link' [] [] Memory
closed-served rules links link link' closed =
    record {
      serves = subst (λ moved. Serves rules moved [] [] Memory) (closed-moved links link link' closed)
          (unserved rules links link []);
      is_closed = closed.closed_is;
      counted = omega (arith, closed.faults_is);
    }

-- Counts

module _ {L C S : Type 0} {links : OutsideGhosts L} {callers : CallerGhosts C} {hall hall' : Hall L C S} where
  -- those of a hall to which a work was added
  pub counts-begin : {rules : List Rule} {drawn drawn' : ℕ} {link : L}
      → AddsWork rules links callers drawn drawn' link hall hall'
      → (accepted_in hall' ≡ accepted_in hall + 1) × (passes_in hall' + drawn ≡ passes_in hall + drawn')
  counts-begin adds =
      let works = ap length adds.works_are ∙ length-append hall.works.items (adds.work ∷ []) in
      let passes = ap passes_under_way adds.works_are ∙ sum_by_push passes_of hall.works.items adds.work in
      let ends = ap (λ ends. length ends.items) adds.ends_stay in
      let left = ap (λ passes. length passes.items) adds.passes_stay in
      (omega (arith, works, ends), omega (arith, passes, left, adds.drawn_is))

  -- and of one of which workers were joined
  pub counts-join : JoinsSome links callers hall hall' → CountsStay hall hall'
  counts-join joins =
      let works = length-all links callers hall.works.items hall'.works.items joins.joined in
      let passes = passes-all links callers hall.works.items hall'.works.items joins.joined in
      let ends = ap (λ ends. length ends.items) joins.ends_stay in
      let left = ap (λ passes. length passes.items) joins.passes_stay in
      (omega (arith, works, ends), omega (arith, passes, left))

module _ {N L C S : Type 0} {nets : ListenerGhosts N L} {links : OutsideGhosts L} {callers : CallerGhosts C}
    {slips : KeptGhosts S} {start : Start N} where
  -- One begins

  -- a hall that has given every connection a pass has done so for those that are over
  level-over : {net : N} {hall : Hall L C S} (stage : Stage nets links callers slips start net hall)
      → passes_in hall ≡ accepted_in hall
      → (length hall.passes.items ≡ length stage.visits)
      × (passes_under_way hall.works.items ≡ length hall.works.items)
  level-over {hall = hall} stage level =
      let few = slips-few start.rules.value links slips start.first stage.visits hall.passes.items stage.served in
      let fewer = passes-few hall.works.items in
      let ends = ap length stage.ends_are ∙ length-map stage.visits (λ visit. visit.end) in
      (omega (arith, few, fewer, ends, level), omega (arith, few, fewer, ends, level))

  -- a link was accepted, and its connection is under way
  pub stage-begins : {net net' : N} {hall hall' : Hall L C S} {drawn drawn' : ℕ} {link : L}
      → Stage nets links callers slips start net hall → passes_in hall ≡ accepted_in hall
      → TakesLink nets net net' link → drawn ≡ start.first + passes_in hall
      → AddsWork start.rules.value links callers drawn drawn' link hall hall'
      → Stage nets links callers slips start net' hall'
  stage-begins {net = net} {net' = net'} {hall = hall} {hall' = hall'} {drawn = drawn} {link = link} stage level takes
      drawn_is adds =
      let both = level-over stage level in
      let works = hall.works.items in
      let ended = map (λ visit. visit.link) stage.visits in
      let known : (ended ++ map begun works) ++ link ∷ [] ≡ ended ++ map begun hall'.works.items =
      append_assoc ended (map begun works) (link ∷ [])
      ∙ ap (λ rest. ended ++ rest) (ap (λ one. map begun works ++ one ∷ []) (sym adds.begun_is)
      ∙ sym (map-append begun works (adds.work ∷ [])) ∙ ap (map begun) (sym adds.works_are)) in
      let here_is : drawn ≡ start.first + length hall.passes.items + length works = omega (arith, drawn_is, both.1) in
      let here : IsUnderWay start.rules.value links callers (start.first + length hall.passes.items + length works)
      adds.work [] = subst (λ n. IsUnderWay start.rules.value links callers n adds.work [])
      here_is adds.under_way in
      let way : AreUnderWay start.rules.value links callers (start.first + length hall.passes.items)
      (works ++ adds.work ∷ []) =
      way-more start.rules.value links callers (start.first + length hall.passes.items) works adds.work
      stage.under_way both.1 here in
      record {
        visits = stage.visits;
        served = subst (λ passes. AreServed start.rules.value links slips start.first stage.visits passes.items)
            (sym adds.passes_stay) stage.served;
        under_way = subst (λ items. AreUnderWay start.rules.value links callers
            (start.first + length hall'.passes.items) items) (sym adds.works_are)
            (subst (λ passes. AreUnderWay start.rules.value links callers (start.first + length passes.items)
            (works ++ adds.work ∷ [])) (sym adds.passes_stay) way);
        comes = subst (λ all. nets.coming start.net.value ≡ option_map (λ rest. all ++ rest) (nets.coming net')) known
            (more-came (nets.coming start.net.value) (ended ++ map begun works) link (nets.coming net)
            (nets.coming net') stage.comes takes.comes);
        gives_back = takes.over_is ∙ stage.gives_back;
        out_is = omega (
          arith,
          takes.out_is,
          stage.out_is,
          ap length adds.works_are,
          length-append works (adds.work ∷ []),
        );
        opened_is = takes.opened_is ∙ stage.opened_is;
        counted = omega (arith, stage.counted, takes.counted);
        ends_are = ap (λ ends. ends.items) adds.ends_stay ∙ stage.ends_are;
        level = λ some. ap (λ passes. length passes.items) adds.passes_stay ∙ both.0;
      }

  -- Workers end

  -- some were joined, and all else is as it was
  pub stage-joins : {net : N} {hall hall' : Hall L C S} → JoinsSome links callers hall hall'
      → Stage nets links callers slips start net hall → Stage nets links callers slips start net hall'
  stage-joins {net = net} {hall = hall} {hall' = hall'} joins stage =
      let works = hall.works.items in
      let works' = hall'.works.items in
      let length_is = length-all links callers works works' joins.joined in
      record {
        visits = stage.visits;
        served = subst (λ passes. AreServed start.rules.value links slips start.first stage.visits passes.items)
            (sym joins.passes_stay) stage.served;
        under_way = subst (λ passes. AreUnderWay start.rules.value links callers
            (start.first + length passes.items) works') (sym joins.passes_stay)
            (way-all links callers start.rules.value (start.first + length hall.passes.items) works works' joins.joined
            stage.under_way);
        comes = subst (λ all. nets.coming start.net.value ≡ option_map (λ rest.
            (map (λ visit. visit.link) stage.visits ++ all) ++ rest) (nets.coming net))
            (sym (begun-all links callers works works' joins.joined)) stage.comes;
        gives_back = stage.gives_back;
        out_is = omega (arith, stage.out_is, length_is);
        opened_is = stage.opened_is;
        counted = stage.counted;
        ends_are = ap (λ ends. ends.items) joins.ends_stay ∙ stage.ends_are;
        level = λ some. ap (λ passes. length passes.items) joins.passes_stay
            ∙ stage.level (omega (arith, some, length_is));
      }

  -- The oldest ends

  -- a connection is over, and so much is left of its caller
  stage-ends : {net net' : N} {hall hall' : Hall L C S} {work : Accepted L C} {works : List (Accepted L C)}
      (visit : Visit L)
      (left : List S)
      → (stage : Stage nets links callers slips start net hall) → hall.works.items ≡ work ∷ works
      → begun work ≡ visit.link → AreServed start.rules.value links slips start.first (stage.visits ++ visit ∷ []) left
      → AreUnderWay start.rules.value links callers (start.first + length left) works
      → (0 < length works → length left ≡ length stage.visits + 1)
      → GivesBack nets net net' visit.link' → hall'.works.items ≡ works → hall'.passes.items ≡ left
      → hall'.ends.items ≡ hall.ends.items ++ visit.end ∷ []
      → Stage nets links callers slips start net' hall'
  stage-ends {net = net} {net' = net'} {hall = hall} {hall' = hall'} {works = works} visit left stage works_are begun_is
      served way level gives works_left passes_are ends_are =
      let ended = map (λ visit. visit.link) stage.visits in
      let visits = stage.visits ++ visit ∷ [] in
      let known : ended ++ map begun hall.works.items
      ≡ map (λ visit. visit.link) visits ++ map begun hall'.works.items =
      ap (λ items. ended ++ map begun items) works_are
      ∙ (ap (λ one. ended ++ one ∷ map begun works) begun_is
      ∙ (sym (append_assoc ended (visit.link ∷ []) (map begun works))
      ∙ (ap (λ front. front ++ map begun works) (sym (map-append (λ visit. visit.link) stage.visits (visit ∷ [])))
      ∙ ap (λ items. map (λ visit. visit.link) visits ++ map begun items) (sym works_left)))) in
      record {
        visits = visits;
        served = subst (λ items. AreServed start.rules.value links slips start.first visits items) (sym passes_are)
            served;
        under_way = subst (λ items. AreUnderWay start.rules.value links callers
            (start.first + length hall'.passes.items) items) (sym works_left)
            (subst (λ items. AreUnderWay start.rules.value links callers (start.first + length items) works)
            (sym passes_are) way);
        comes = stage.comes ∙ (ap (λ all. option_map (λ rest. all ++ rest) (nets.coming net)) known
            ∙ ap (option_map (λ rest. (map (λ visit. visit.link) visits ++ map begun hall'.works.items) ++ rest))
            (sym gives.coming_is));
        gives_back = subst (λ back. nets.over net' ≡ option_map (λ before. before ++ back) (nets.over start.net.value))
            (sym (map-append (λ visit. visit.link') stage.visits (visit ∷ [])))
            (more-over (nets.over start.net.value) (map (λ visit. visit.link') stage.visits) visit.link' (nets.over net)
            (nets.over net') stage.gives_back gives.over_is);
        out_is = omega (arith, gives.out_is, stage.out_is, ap length works_are, ap length works_left);
        opened_is = gives.opened_is ∙ stage.opened_is;
        counted = omega (arith, stage.counted, gives.faults_is);
        ends_are = ends_are ∙ (ap (λ ends. ends ++ visit.end ∷ []) stage.ends_are
            ∙ sym (map-append (λ visit. visit.end) stage.visits (visit ∷ [])));
        level = λ some. ap length passes_are ∙ (level (subst (λ items. 0 < length items) works_left some)
            ∙ sym (length-append stage.visits (visit ∷ [])));
      }

  -- a worker has handed its link back, and its caller was rested
  pub stage-worked : {net net' : N} {hall hall' : Hall L C S} {work : Accepted L C} {works : List (Accepted L C)}
      (promise : Promised L C) (link : L) (pass : C) (end : End) (slip : S)
      → Stage nets links callers slips start net hall → hall.works.items ≡ work ∷ works
      → begun work ≡ promise.link.value
      → BeganWith start.rules.value callers (start.first + length hall.passes.items) promise
      → HasWorked links callers promise.rules.value promise.link.value promise.pass.value link pass end
      → slips.number slip ≡ callers.number pass → slips.said slip ≡ callers.said pass
      → GivesBack nets net net' link → hall'.works.items ≡ works
      → hall'.passes.items ≡ hall.passes.items ++ slip ∷ [] → hall'.ends.items ≡ hall.ends.items ++ end ∷ []
      → Stage nets links callers slips start net' hall'
  stage-worked {hall = hall} {works = works} promise link pass end slip stage works_are begun_is began worked number
      said gives works_left passes_are ends_are =
      let visit : Visit L =
      record { link = promise.link.value; link' = link; said = slips.said slip; end = end } in
      let level : length hall.passes.items ≡ length stage.visits =
      stage.level (omega (arith, ap length works_are)) in
      let by_rules = subst (λ rules. ServesLink rules links promise.link.value link (callers.said promise.pass.value)
      (callers.said pass) end) began.0 worked.0 in
      let from_none = subst (λ dialog. ServesLink start.rules.value links promise.link.value link dialog
      (callers.said pass) end) began.2 by_rules in
      let one : IsServed start.rules.value links visit =
      subst (λ dialog. ServesLink start.rules.value links promise.link.value link [] dialog end) (sym said)
      from_none in
      let way = subst (λ items. AreUnderWay start.rules.value links callers
      (start.first + length hall.passes.items) items) works_are stage.under_way in
      let len = length-append hall.passes.items (slip ∷ []) in
      stage-ends visit (hall.passes.items ++ slip ∷ []) stage works_are begun_is
      (served-more start.rules.value links slips start.first stage.visits hall.passes.items visit slip stage.served
      level one (number ∙ (worked.1 ∙ began.1)) refl)
      (subst (λ n. AreUnderWay start.rules.value links callers n works) (omega (arith, len)) way.1)
      (λ some. omega (arith, len, level)) gives works_left passes_are ends_are

  -- a link that had no caller was given back
  pub stage-refused : {net net' : N} {hall hall' : Hall L C S} {works : List (Accepted L C)} {work : Accepted L C}
      {was link : L}
      → Stage nets links callers slips start net hall → hall.works.items ≡ work ∷ works → begun work ≡ was
      → IsClosed links was link → works ≡ [] → GivesBack nets net net' link → hall'.works.items ≡ works
      → hall'.passes ≡ hall.passes → hall'.ends.items ≡ hall.ends.items ++ Memory ∷ []
      → Stage nets links callers slips start net' hall'
  stage-refused {hall = hall} {was = was} {link = link} stage works_are begun_is closed none gives works_left
      passes_stay ends_are =
      let visit : Visit L = record { link = was; link' = link; said = []; end = Memory } in
      let level : length hall.passes.items ≡ length stage.visits =
      stage.level (omega (arith, ap length works_are)) in
      stage-ends visit hall.passes.items stage works_are begun_is
      (served-last start.rules.value links slips start.first stage.visits hall.passes.items visit stage.served level
      (closed-served start.rules.value links was link closed) (refl, refl))
      (subst (λ items. AreUnderWay start.rules.value links callers (start.first + length hall.passes.items) items)
      (sym none) tt)
      (λ some. absurd (omega (arith, some, ap length none))) gives works_left (ap (λ passes. passes.items) passes_stay)
      ends_are

  -- The beginning and the end

  -- nothing was accepted yet
  pub stage-new : {rules : List Rule} {net : N} {drawn : ℕ} {hall : Hall L C S}
      → Opens {N = N} {L = L} {C = C} {S = S} rules net drawn start hall
      → Stage nets links callers slips start net hall
  stage-new {net = net} {hall = hall} opens =
      record {
        visits = [];
        served = subst (λ items. AreServed start.rules.value links slips start.first [] items) (sym opens.no_passes) tt;
        under_way = subst (λ items. AreUnderWay start.rules.value links callers
            (start.first + length hall.passes.items) items) (sym opens.no_works) tt;
        comes = subst (λ items. nets.coming start.net.value
            ≡ option_map (λ rest. ([] ++ map begun items) ++ rest) (nets.coming net)) (sym opens.no_works)
            (ap nets.coming opens.net_is ∙ nothing-came (nets.coming net));
        gives_back = nothing-over (nets.over net) ∙ ap (λ n. option_map (λ before. before ++ []) (nets.over n))
            (sym opens.net_is);
        out_is = omega (arith, ap nets.out opens.net_is, ap length opens.no_works);
        opened_is = sym (ap nets.opened opens.net_is);
        counted = omega (arith, ap nets.faults opens.net_is);
        ends_are = opens.no_ends;
        level = λ some. ap length opens.no_passes;
      }

  -- all are over
  stage-over : {net : N} {hall : Hall L C S} {asked drawn' : ℕ} {answered : Served S}
      → Stage nets links callers slips start net hall → length hall.works.items ≡ 0
      → accepted_in hall ≤ asked → drawn' ≡ start.first + passes_in hall
      → EndsServing nets start.net.value net asked (accepted_in hall) (passes_in hall) answered.end
      → answered.passes ≡ hall.passes → answered.ends ≡ hall.ends → answered.count ≡ length hall.ends.items
      → ServesAll start.rules.value nets links slips asked start.net.value net start.first drawn' answered
  stage-over {net = net} {hall = hall} {asked = asked} {answered = answered} stage over few drawn_is ends_so passes_are
      ends_are count_is =
      let none = empty hall.works.items over in
      let ends = ap length stage.ends_are ∙ length-map stage.visits (λ visit. visit.end) in
      let accepted : accepted_in hall ≡ length stage.visits = omega (arith, ends, over) in
      let passes : passes_in hall ≡ length answered.passes.items =
      ap (λ items. length hall.passes.items + passes_under_way items) none
      ∙ (omega arith ∙ ap (λ passes. length passes.items) (sym passes_are)) in
      record {
        visits = stage.visits;
        served = subst (λ passes. AreServed start.rules.value links slips start.first stage.visits passes.items)
            (sym passes_are) stage.served;
        comes = stage.comes ∙ ap (λ all. option_map (λ rest. all ++ rest) (nets.coming net))
            (ap (λ items. map (λ visit. visit.link) stage.visits ++ map begun items) none
            ∙ append-nil (map (λ visit. visit.link) stage.visits));
        gives_back = stage.gives_back;
        none_out = omega (arith, stage.out_is, over);
        opened_is = stage.opened_is;
        counted = stage.counted;
        count_is = count_is ∙ ends;
        few = omega (arith, few, accepted);
        ends_are = ap (λ ends. ends.items) ends_are ∙ stage.ends_are;
        drawn_is = omega (arith, drawn_is, passes);
        ends_so = subst (λ n. EndsServing nets start.net.value net asked n (length answered.passes.items) answered.end)
            accepted (subst (λ n. EndsServing nets start.net.value net asked (accepted_in hall) n answered.end) passes
            ends_so);
      }

  -- the same, by what the serving began with
  pub stage-served : {rules : List Rule} {first net : N} {hall hall' : Hall L C S} {asked drawn drawn' : ℕ}
      {answered : Served S} → Opens rules first drawn start hall'
      → Stage nets links callers slips start net hall → length hall.works.items ≡ 0
      → accepted_in hall ≤ asked → drawn' ≡ start.first + passes_in hall
      → EndsServing nets start.net.value net asked (accepted_in hall) (passes_in hall) answered.end
      → answered.passes ≡ hall.passes → answered.ends ≡ hall.ends → answered.count ≡ length hall.ends.items
      → ServesAll rules nets links slips asked first net drawn drawn' answered
  stage-served {first = first} {net = net} {asked = asked} {drawn = drawn} {drawn' = drawn'} {answered = answered} opens
      stage over few drawn_is ends_so passes_are ends_are count_is =
      subst (λ r. ServesAll r nets links slips asked first net drawn drawn' answered) opens.rules_are
      (subst (λ n. ServesAll start.rules.value nets links slips asked n net drawn drawn' answered) opens.net_is
      (subst (λ n. ServesAll start.rules.value nets links slips asked start.net.value net n drawn' answered)
      opens.number_is (stage-over stage over few drawn_is ends_so passes_are ends_are count_is)))

-- an end stays where no link came, no call failed, and as many were counted
ends-by : {N L : Type 0} (nets : ListenerGhosts N L) (first net net' : N) (asked accepted passes : ℕ) (end : ServedEnd)
    → nets.coming net' ≡ nets.coming net → nets.faults net' ≡ nets.faults net
    → EndsServing nets first net asked accepted passes end → EndsServing nets first net' asked accepted passes end
ends-by nets first net net' asked accepted passes ended.Done coming_is faults_is ends =
    subst (λ coming. (accepted ≡ passes) × ((passes ≡ asked) ⊎ (coming ≡ Some []))) (sym coming_is) ends
ends-by nets first net net' asked accepted passes ended.Fault coming_is faults_is ends =
    subst (λ faults. (accepted ≡ passes) × (passes < asked) × Rose (nets.faults first) faults) (sym faults_is) ends
ends-by nets first net net' asked accepted passes ended.Memory coming_is faults_is ends = ends

pub ends-stay : {N L C S : Type 0} (nets : ListenerGhosts N L) (first net net' : N) (hall hall' : Hall L C S)
    (asked : ℕ)
    (end : ServedEnd) → nets.coming net' ≡ nets.coming net → nets.faults net' ≡ nets.faults net → CountsStay hall hall'
    → EndsServing nets first net asked (accepted_in hall) (passes_in hall) end
    → EndsServing nets first net' asked (accepted_in hall') (passes_in hall') end
ends-stay nets first net net' hall hall' asked end coming_is faults_is counts ends =
    subst (λ n. EndsServing nets first net' asked n (passes_in hall') end) (sym counts.0)
    (subst (λ n. EndsServing nets first net' asked (accepted_in hall) n end) (sym counts.1)
    (ends-by nets first net net' asked (accepted_in hall) (passes_in hall) end coming_is faults_is ends))

-- where as many connections were served as were asked for, none, the serving is done, and else memory was out
ends-none : {N L : Type 0} (nets : ListenerGhosts N L) (net : N) (asked : ℕ) (end : ServedEnd)
    → (asked ≡ 0 → end ≡ ended.Done) → (0 < asked → end ≡ ended.Memory) → EndsServing nets net net asked 0 0 end
ends-none nets net zero end done wanting =
    subst (λ e. EndsServing nets net net 0 0 0 e) (sym (done refl)) (refl, inl refl)
ends-none nets net (suc asked) end done wanting =
    subst (λ e. EndsServing nets net net (suc asked) 0 0 e) (sym (wanting (omega arith))) (omega arith)

-- nothing was accepted, since there is no memory for the first connection
pub none-serves : {N L S : Type 0} {rules : List Rule} {nets : ListenerGhosts N L} {links : OutsideGhosts L}
    {slips : KeptGhosts S} {asked : ℕ} {net : N} {drawn : ℕ} {answered : Served S} → answered.count ≡ 0
    → answered.passes.items ≡ [] → answered.ends.items ≡ [] → (asked ≡ 0 → answered.end ≡ ended.Done)
    → (0 < asked → answered.end ≡ ended.Memory) → ServesAll rules nets links slips asked net net drawn drawn answered
none-serves {rules = rules} {nets = nets} {links = links} {slips = slips} {asked = asked} {net = net} {drawn = drawn}
    {answered = answered} count_is no_passes no_ends done wanting =
    record {
      visits = [];
      served = subst (λ items. AreServed rules links slips drawn [] items) (sym no_passes) tt;
      comes = nothing-came (nets.coming net);
      gives_back = nothing-over (nets.over net);
      none_out = refl;
      opened_is = refl;
      counted = omega arith;
      count_is = count_is;
      few = omega arith;
      ends_are = no_ends;
      drawn_is = omega (arith, ap length no_passes);
      ends_so = subst (λ n. EndsServing nets net net asked 0 n answered.end) (sym (ap length no_passes))
          (ends-none nets net asked answered.end done wanting);
    }
