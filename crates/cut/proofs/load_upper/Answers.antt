-- `cut::load_upper` meets its contract: formatted, pushed, ended.
-- Assumes nothing.
use Rattle.model.specs.State.{formatted}
use Rattle.model.specs.Parting.{part_off}
use Rattle.model.proofs.Backward.{backward}
use Rattle.standing.specs.Heads.{rest_of}
use Rattle.std.proofs.Common.{◌∙◌}
use Rattle.model.proofs.Header.{seen_is, mark_is}
use Rattle.appending.specs.Runs.{Tells}
use Rattle.cut.proofs.Moves.{upper_moves, upper_sound, head_in}
use Rattle.cut.proofs.load_upper.Goals as goal

pub lower_leaf_edge-from-requires : goal.lower_leaf_edge-from-requires
lower_leaf_edge-from-requires c = let p = c.requires in backward _ p.state p.holds

pub write_all-requires : goal.write_all-requires
write_all-requires c = c.requires.upper.sized

pub push_after-requires : goal.push_after-requires
push_after-requires c =
    let x = c in
    let p = x.requires in
    let d = c.lower_leaf_edge-from in
    record {
      state = p.state;
      holds = p.holds;
      rest = rest_of (formatted x.args.nodes);
      all = part_off x.args.key p.state;
      moving = upper_moves x.args.key p.holds p.upper d.result (d.ensures p.state p.holds) _ c.write_all.ensures;
    }

pub seen-requires : goal.seen-requires
seen-requires c = head_in c.requires.holds

pub mark-requires : goal.mark-requires
mark-requires c = head_in c.requires.holds

pub finish-requires : goal.finish-requires
finish-requires c =
    let x = c in
    let p = x.requires in
    let d = c.lower_leaf_edge-from in
    record {
      rest = rest_of (formatted x.args.nodes);
      pairs = part_off x.args.key p.state;
      ended = c.push_after.ensures p.state p.holds (rest_of (formatted x.args.nodes)) (part_off x.args.key p.state) (upper_moves x.args.key p.holds p.upper d.result (d.ensures p.state p.holds) _ c.write_all.ensures);
    }

pub returns : goal.returns
returns c = λ s o u.
    let x = c.args in
    let d = c.lower_leaf_edge-from in
    let r = rest_of (formatted x.nodes) in
    let ps = part_off x.key s in
    let t : Tells s.mark ps x.pairs c.seen.result c.mark.result = record { pairs_are = u.pairs_are; seen_is = c.seen.ensures ∙ seen_is o; mark_is = c.mark.ensures ∙ mark_is o } in
    c.finish.ensures r ps s.mark (c.push_after.ensures s o r ps (upper_moves x.key o u d.result (d.ensures s o) _ c.write_all.ensures)) t (upper_sound x.key o u)
