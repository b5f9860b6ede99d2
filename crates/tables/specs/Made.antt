-- What a setting is made of.
use Rattle.tables.specs.declared.settings.Setting.{Setting as Made}
use Rattle.tables.specs.Settings.{Setting, setting_in}

abbrev pub made : Made → Setting
made s = setting_in s.pack.bytes.now s.pack.model.now s.ceilings
