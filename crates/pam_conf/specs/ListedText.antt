-- An item of a list, without its layout in memory.
use Rattle.pam_conf.specs.Listed.{ListedText}
use Rattle.pam_conf.specs.declared.listed.Listed.{Listed}

abbrev pub listed_text : Listed → ListedText
listed_text l = record { file = l.file; line = l.line; control = l.control; includes = l.includes.items }
