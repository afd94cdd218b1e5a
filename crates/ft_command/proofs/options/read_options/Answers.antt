use Rattle.std.proofs.Common.{rules, ◌≡◌, string_bytes, length, take, drop, ◌-◌, map}
use Rattle.ft_command.specs.Asked.{given_of}
use Rattle.ft_command.proofs.Given.{split_two, gives_on, gives_back, gives_nothing, gives_same, gives_only, one_left}
use Rattle.ft_command.proofs.options.read_options.Goals as goal

pub loop-rest-preserved : goal.loop-rest-preserved
loop-rest-preserved c =
    let rest = c.loop-rest.rest.now in
    let split = split_two string_bytes rest c.name-item.result c.value-item.result c.as_str.result.now
    c.as_str-in-len2-up.result.now c.in-len2-up.len_at_least c.name-item.is c.value-item.is c.as_str.ensures.value
    c.as_str-in-len2-up.ensures.value in
    let more = map string_bytes (take (length rest - 2) (drop 2 rest)) in
    let old = given_of c.loop-rest.options in
    let new = given_of c.take.new.self in
    record {
      on = λ g h. gives_on c.args.allowed (map string_bytes rest) more c.as_str.result.now
          c.as_str-in-len2-up.result.now old new g split c.in_ok-take.ensures.only (c.loop-rest.invariant.on g h);
      back = λ g h. c.loop-rest.invariant.back g (gives_back c.args.allowed (map string_bytes rest) more
          c.as_str.result.now c.as_str-in-len2-up.result.now old new g split c.in_ok-take.ensures.ok h);
    }

pub returns-in_err-take-clause-refused : goal.returns-in_err-take-clause-refused
returns-in_err-take-clause-refused c = λ e given h.
    let rest = c.loop-rest.rest.now in
    let split = split_two string_bytes rest c.name-item.result c.value-item.result c.as_str.result.now
    c.as_str-in-len2-up.result.now c.in-len2-up.len_at_least c.name-item.is c.value-item.is c.as_str.ensures.value
    c.as_str-in-len2-up.ensures.value in
    let more = map string_bytes (take (length rest - 2) (drop 2 rest)) in
    gives_nothing c.args.allowed (map string_bytes rest) more c.as_str.result.now c.as_str-in-len2-up.result.now
    (given_of c.loop-rest.options) given split (c.in_err-take.ensures.refused (search rules))
    (c.loop-rest.invariant.on given h)

pub returns-then-is_empty-clause-ok : goal.returns-then-is_empty-clause-ok
returns-then-is_empty-clause-ok c =
    let nil : length c.loop-rest.rest.now ≡ 0 = search rules in
    c.loop-rest.invariant.back (given_of c.loop-rest.options)
    (gives_same string_bytes c.args.allowed c.loop-rest.rest.now (given_of c.loop-rest.options) nil)

pub returns-then-is_empty-clause-only : goal.returns-then-is_empty-clause-only
returns-then-is_empty-clause-only c = λ given h.
    let nil : length c.loop-rest.rest.now ≡ 0 = search rules in
    gives_only string_bytes c.args.allowed c.loop-rest.rest.now (given_of c.loop-rest.options) given nil
    (c.loop-rest.invariant.on given h)

pub returns-clause-refused : goal.returns-clause-refused
returns-clause-refused c = λ e given h.
    one_left string_bytes c.args.allowed c.loop-rest.rest.now (given_of c.loop-rest.options) given
    c.in_default.len_below (search rules) (c.loop-rest.invariant.on given h)
