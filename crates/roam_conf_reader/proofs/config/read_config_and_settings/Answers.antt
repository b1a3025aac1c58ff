use Rattle.roam_conf_reader.proofs.config.read_config_and_settings.Goals as goal

-- The settings are those of the document that states the configuration.
pub returns-in-Ok-clause-settings : goal.returns-in-Ok-clause-settings
returns-in-Ok-clause-settings c = c.in-Ok.ensures.ok c.args.text.now c.in_ok-document.ensures.document
