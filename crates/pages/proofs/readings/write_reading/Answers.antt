use Rattle.std.proofs.Common.{ℕ, ◌+◌, ◌≤◌, length, sym, ap, ◌∙◌, subst, arith}
use Rattle.std.proofs.lemmas.Bool.{leb-true}
use Rattle.roster.specs.Rosters.{book_of}
use Rattle.replays.specs.Kinds.{kind_by}
use Rattle.replays.specs.Lines.{read_line}
use Rattle.pages.proofs.Fields.{read_most}
use Rattle.pages.proofs.Legible.{told_all}
use Rattle.pages.proofs.Writing.{wrote_as, wrote_more, all_written}
use Rattle.pages.proofs.readings.write_reading.Goals as goal

pub put_places-requires : goal.put_places-requires
put_places-requires g c =
    let m = g.P.Pile.meaning c.args.pile.now in
    let counts = c.counts-live.ensures in
    let enough = leb-true (c.args.at + 771) (length c.args.page.now) (sym c.has_room.ensures ∙ c.if-not-has_room.false) in
    let most : length (read_line c.counts-live.result.0 c.counts-live.result.1) ≤ 13 =
    subst (λ (all : ℕ × ℕ × ℕ). length (read_line all.0 all.1) ≤ 13) (sym counts)
    (read_most m.live m.unpaired (g.met.P.Pile.sound c.args.pile.now).few_keys)
    in
    record {
      few = omega (arith, c.places_of-places.ensures.size);
      room = omega (arith, most, c.put_counts-places_at.ensures.ends);
    }

pub returns : goal.returns
returns g c =
    let m = g.P.Pile.meaning c.args.pile.now in
    let view = g.K.Key.view in
    let kind = kind_by view g.K.Key.reading g.K.Printed.printed in
    let slots = (book_of view c.args.roster.now).slots in
    let sound = g.met.P.Pile.sound c.args.pile.now in
    let size = c.places_of-places.ensures.size in
    let lines =
    told_all kind slots 0 c.places_of-places.result m.places (omega (arith, size, sound.as_many_places, sound.few_places))
    (λ k h. c.places_of-places.ensures.places k (omega (arith, h, size)))
    in
    let head = wrote_as (ap (λ (all : ℕ × ℕ × ℕ). read_line all.0 all.1) c.counts-live.ensures) c.put_counts-places_at.ensures in
    let w = all_written 771 (sym c.has_room.ensures ∙ c.if-not-has_room.false) (wrote_more head (wrote_as lines c.put_places.ensures)) in
    record { next = w.0; page = w.1 }
