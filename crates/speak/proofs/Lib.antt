mod Speaking
