use Rattle.std.proofs.Common.{of_calls, ◌++◌, ◌∷◌, [], lit<, refl, sym, arith}
use Rattle.std.proofs.lemmas.Fn.{FoldsTo-push}
use Rattle.lru_cores.specs.Sparing.{HasPut}
use Rattle.lru_cores.proofs.Sparing.{some_lists, over_held, spares, never_bare, sparing_shorter, sparing_push, stands_on}
use Rattle.lru_cores.proofs.lru_core.LruCore.evict_sparing.Goals as goal

pub victim_sparing-requires : goal.victim_sparing-requires
victim_sparing-requires g c = (lit< tt, record { row = c.requires.put.row; own = c.requires.put.own; first = c.loop-victim.invariant.1.1.1.1 c.requires.put.row c.requires.put.own c.requires.put.first })

pub unreachable-requires : goal.unreachable-requires
unreachable-requires g c =
    let put : HasPut c.loop-victim.self c.args.key = record { row = c.requires.put.row; own = c.requires.put.own; first = c.loop-victim.invariant.1.1.1.1 c.requires.put.row c.requires.put.own c.requires.put.first } in
    never_bare g.row.N c.loop-victim.self c.in-Some.ensures.valid c.args.key c.in-Some.victim c.evict_from.new.self put (sym c.in-Some.ensures.over) c.in-Some.ensures.victim c.in_default-evict_from.ensures

pub loop-victim-init : goal.loop-victim-init
loop-victim-init g c = (search of_calls parts 8, ([], (refl, (refl, λ r own first. first))))

pub loop-victim-smaller : goal.loop-victim-smaller
loop-victim-smaller g c =
    let e = spares g.row.N c.loop-victim.self c.in-Some.ensures.valid c.args.key c.in-Some.victim c.in-Some-evict_from.pair c.evict_from.new.self (sym c.in-Some.ensures.over) c.in-Some.ensures.victim c.in-Some-evict_from.ensures in
    omega (arith, sparing_shorter g.row.N c.loop-victim.self c.in-Some.ensures.valid c.args.key c.in-Some-evict_from.pair c.evict_from.new.self e)

pub loop-victim-preserved : goal.loop-victim-preserved
loop-victim-preserved g c =
    let inv = c.loop-victim.invariant in
    let pair = c.in-Some-evict_from.pair in
    let valid = c.in-Some.ensures.valid in
    let e = spares g.row.N c.loop-victim.self c.in-Some.ensures.valid c.args.key c.in-Some.victim c.in-Some-evict_from.pair c.evict_from.new.self (sym c.in-Some.ensures.over) c.in-Some.ensures.victim c.in-Some-evict_from.ensures in
    let held = over_held c.loop-victim.self (some_lists g.row.N c.loop-victim.self valid c.args.key) (sym c.in-Some.ensures.over) in (
      search of_calls parts 8,
      (
        inv.1.0 ++ pair ∷ [],
        (
          sparing_push c.args.self.now c.args.key inv.1.0 c.loop-victim.self pair c.evict_from.new.self inv.1.1.0 e,
          (
            FoldsTo-push (λ p x q. goal.F-step g p x tt q) c.args.visit inv.1.0 c.loop-victim.visit pair c.visit.new.self inv.1.1.1.0 c.visit.ensures,
            λ r own first. stands_on g.row.N c.loop-victim.self valid c.args.key pair c.evict_from.new.self held e r own (inv.1.1.1.1 r own first),
          ),
        ),
      ),
    )
