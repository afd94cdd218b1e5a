use Rattle.std.proofs.Common.{◌∷◌, string_bytes, length, take, drop, ◌-◌, map, ap, ◌∙◌, subst, sym, Err, refl}
use Rattle.ft_command.specs.Asked.{given_of, asked}
use Rattle.ft_command.specs.Options.{none_given, GivesAll}
use Rattle.ft_command.proofs.Bounds.{few_steps, few_turns}
use Rattle.ft_command.proofs.Given.{split_two}
use Rattle.ft_command.proofs.Commands.{asks, asks_only, asks_nothing, no_command, usage_only}
use Rattle.ft_command.proofs.command.command_of.Goals as goal

pub returns-in-Some-command_from-clause-ok : goal.returns-in-Some-command_from-clause-ok
returns-in-Some-command_from-clause-ok c =
    let words = c.args.words.now in
    let options = map string_bytes (take (length words - 2) (drop 2 words)) in
    let split = split_two string_bytes words c.first-item.result c.operand-item.result c.as_str.result.now
    c.as_str-in-Ok.result.now c.in-len2-up.len_at_least c.first-item.is c.operand-item.is c.as_str.ensures.value
    c.as_str-in-Ok.ensures.value in
    let words_are = split ∙ ap (λ w. w ∷ c.as_str-in-Ok.result.now ∷ options) c.in-Some.ensures.some in
    asks (map string_bytes words) (asked c.in-Some-command_from.command) (record {
      verb = c.in-Some.verb;
      operand = c.as_str-in-Ok.result.now;
      options = options;
      given = given_of c.in-Ok.options;
      words_are = words_are;
      gives = subst (λ a. GivesAll a options none_given (given_of c.in-Ok.options)) c.allowed.ensures
          c.in-Ok.ensures.ok;
      request_is = sym c.in-Some-command_from.ensures;
    })

pub returns-in-Some-command_from-clause-few_steps : goal.returns-in-Some-command_from-clause-few_steps
returns-in-Some-command_from-clause-few_steps c =
    let words = c.args.words.now in
    let options = map string_bytes (take (length words - 2) (drop 2 words)) in
    let split = split_two string_bytes words c.first-item.result c.operand-item.result c.as_str.result.now
    c.as_str-in-Ok.result.now c.in-len2-up.len_at_least c.first-item.is c.operand-item.is c.as_str.ensures.value
    c.as_str-in-Ok.ensures.value in
    let words_are = split ∙ ap (λ w. w ∷ c.as_str-in-Ok.result.now ∷ options) c.in-Some.ensures.some in
    few_steps (map string_bytes words) (asked c.in-Some-command_from.command) (record {
      verb = c.in-Some.verb;
      operand = c.as_str-in-Ok.result.now;
      options = options;
      given = given_of c.in-Ok.options;
      words_are = words_are;
      gives = subst (λ a. GivesAll a options none_given (given_of c.in-Ok.options)) c.allowed.ensures
          c.in-Ok.ensures.ok;
      request_is = sym c.in-Some-command_from.ensures;
    })

pub returns-in-Some-command_from-clause-turns : goal.returns-in-Some-command_from-clause-turns
returns-in-Some-command_from-clause-turns c =
    let words = c.args.words.now in
    let options = map string_bytes (take (length words - 2) (drop 2 words)) in
    let split = split_two string_bytes words c.first-item.result c.operand-item.result c.as_str.result.now
    c.as_str-in-Ok.result.now c.in-len2-up.len_at_least c.first-item.is c.operand-item.is c.as_str.ensures.value
    c.as_str-in-Ok.ensures.value in
    let words_are = split ∙ ap (λ w. w ∷ c.as_str-in-Ok.result.now ∷ options) c.in-Some.ensures.some in
    few_turns (map string_bytes words) (asked c.in-Some-command_from.command) (record {
      verb = c.in-Some.verb;
      operand = c.as_str-in-Ok.result.now;
      options = options;
      given = given_of c.in-Ok.options;
      words_are = words_are;
      gives = subst (λ a. GivesAll a options none_given (given_of c.in-Ok.options)) c.allowed.ensures
          c.in-Ok.ensures.ok;
      request_is = sym c.in-Some-command_from.ensures;
    })

pub returns-in-Some-command_from-clause-only : goal.returns-in-Some-command_from-clause-only
returns-in-Some-command_from-clause-only c =
    let words = c.args.words.now in
    let options = map string_bytes (take (length words - 2) (drop 2 words)) in
    let split = split_two string_bytes words c.first-item.result c.operand-item.result c.as_str.result.now
    c.as_str-in-Ok.result.now c.in-len2-up.len_at_least c.first-item.is c.operand-item.is c.as_str.ensures.value
    c.as_str-in-Ok.ensures.value in
    let words_are = split ∙ ap (λ w. w ∷ c.as_str-in-Ok.result.now ∷ options) c.in-Some.ensures.some in
    asks_only (map string_bytes words) options c.in-Some.verb c.as_str-in-Ok.result.now (given_of c.in-Ok.options)
    (asked c.in-Some-command_from.command) words_are
    (λ g h. c.in-Ok.ensures.only g (subst (λ a. GivesAll a options none_given g) (sym c.allowed.ensures) h))
    (sym c.in-Some-command_from.ensures)
    (record {
      verb = c.in-Some.verb;
      operand = c.as_str-in-Ok.result.now;
      options = options;
      given = given_of c.in-Ok.options;
      words_are = words_are;
      gives = subst (λ a. GivesAll a options none_given (given_of c.in-Ok.options)) c.allowed.ensures
          c.in-Ok.ensures.ok;
      request_is = sym c.in-Some-command_from.ensures;
    })

pub returns-in-None-clause-ok : goal.returns-in-None-clause-ok
returns-in-None-clause-ok c =
    let words = c.args.words.now in
    let options = map string_bytes (take (length words - 2) (drop 2 words)) in
    let split = split_two string_bytes words c.first-item.result c.operand-item.result c.as_str.result.now
    c.as_str-in-Ok.result.now c.in-len2-up.len_at_least c.first-item.is c.operand-item.is c.as_str.ensures.value
    c.as_str-in-Ok.ensures.value in
    let words_are = split ∙ ap (λ w. w ∷ c.as_str-in-Ok.result.now ∷ options) c.in-Some.ensures.some in
    asks_nothing (map string_bytes words) options c.in-Some.verb c.as_str-in-Ok.result.now (given_of c.in-Ok.options)
    words_are (λ g h. c.in-Ok.ensures.only g (subst (λ a. GivesAll a options none_given g) (sym c.allowed.ensures) h))
    (sym c.in-None.ensures)

pub returns-in-None-clause-only : goal.returns-in-None-clause-only
returns-in-None-clause-only c =
    let words = c.args.words.now in
    let options = map string_bytes (take (length words - 2) (drop 2 words)) in
    let split = split_two string_bytes words c.first-item.result c.operand-item.result c.as_str.result.now
    c.as_str-in-Ok.result.now c.in-len2-up.len_at_least c.first-item.is c.operand-item.is c.as_str.ensures.value
    c.as_str-in-Ok.ensures.value in
    let words_are = split ∙ ap (λ w. w ∷ c.as_str-in-Ok.result.now ∷ options) c.in-Some.ensures.some in
    usage_only (map string_bytes words) (asks_nothing (map string_bytes words) options c.in-Some.verb
    c.as_str-in-Ok.result.now (given_of c.in-Ok.options) words_are (λ g h.
    c.in-Ok.ensures.only g (subst (λ a. GivesAll a options none_given g) (sym c.allowed.ensures) h))
    (sym c.in-None.ensures))

pub returns-in-Err-Refused-clause-ok : goal.returns-in-Err-Refused-clause-ok
returns-in-Err-Refused-clause-ok c =
    let words = c.args.words.now in
    let operand = string_bytes c.operand-item.result in
    let options = map string_bytes (take (length words - 2) (drop 2 words)) in
    let split = split_two string_bytes words c.first-item.result c.operand-item.result c.as_str.result.now operand
    c.in-len2-up.len_at_least c.first-item.is c.operand-item.is c.as_str.ensures.value refl in
    let none = no_command (map string_bytes words) options c.in-Some.verb operand (split
    ∙ ap (λ w. w ∷ operand ∷ options) c.in-Some.ensures.some) (λ g h.
    c.in-Err-Refused.ensures.refused (ap Err c.in-Err-Refused.field-0-is) g
    (subst (λ a. GivesAll a options none_given g) (sym c.allowed.ensures) h)) in
    none

pub returns-in-Err-Refused-clause-only : goal.returns-in-Err-Refused-clause-only
returns-in-Err-Refused-clause-only c =
    let words = c.args.words.now in
    let operand = string_bytes c.operand-item.result in
    let options = map string_bytes (take (length words - 2) (drop 2 words)) in
    let split = split_two string_bytes words c.first-item.result c.operand-item.result c.as_str.result.now operand
    c.in-len2-up.len_at_least c.first-item.is c.operand-item.is c.as_str.ensures.value refl in
    let none = no_command (map string_bytes words) options c.in-Some.verb operand (split
    ∙ ap (λ w. w ∷ operand ∷ options) c.in-Some.ensures.some) (λ g h.
    c.in-Err-Refused.ensures.refused (ap Err c.in-Err-Refused.field-0-is) g
    (subst (λ a. GivesAll a options none_given g) (sym c.allowed.ensures) h)) in
    usage_only (map string_bytes words) none
