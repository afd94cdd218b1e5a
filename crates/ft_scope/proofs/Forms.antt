-- The plain forms of statements before and after renaming.
use Rattle.ft_syntax.proofs.PlainForms.{assign_form, assign_at_form, while_form, if_form}

pub ruleset forms = (assign_form, assign_at_form, while_form, if_form)
