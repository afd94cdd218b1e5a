use Rattle.ft_object_tests.proofs.forms.node_is_found_under_a_substitution.Given as goal

abbrev pub ghosts-found : goal.ghosts-found
ghosts-found a = record { name = a.blank.name; parts = a.blank.parts }
